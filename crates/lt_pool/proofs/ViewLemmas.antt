-- The views and the words of a table after one of them changed.
use Rattle.std.proofs.Common.{◌≡◌, ◌≢◌, ◌⊎◌, ℕ, zero, suc, ◌+◌, ◌<◌, ◌≤◌, true, false, true≢false, List, [], ◌∷◌, ◌++◌, length, slice_index, slice_set, sym, refl, ap, ◌∙◌, subst, inl, inr, ⊎_elim, get_or-set_other, get_or-set_same, arith}
use mathlib.Core.Logic.{dite}
use mathlib.Core.Option.{some, some-injective, some-ne-none}
use native.Mathlib.Decide.{ℕ_discrete}
use lib.ListN.{get_elem?}
use Rattle.atomic_table.proofs.Lists.{at_set, set_here, set_else, at_longer}
use Rattle.lt_pool.specs.declared.view.View.{View}
use Rattle.lt_pool.specs.Rule.{Has, AllDiffer, IsLive, Apart, AreJoined, First, Owner}

pub word_here : (words : List ℕ) (i n : ℕ) → i + 1 < length words → slice_index (slice_set words (i + 1) n) (i + 1) ≡ n
word_here words i n inside = get_or-set_same words (i + 1) n 0 inside

pub word_else : (words : List ℕ) (i j n : ℕ) → j ≢ i
    → slice_index (slice_set words (i + 1) n) (j + 1) ≡ slice_index words (j + 1)
word_else words i j n ne = get_or-set_other words (i + 1) (j + 1) n 0 (λ e. ne (omega arith))

pub first_word : (words : List ℕ) (i n : ℕ) → slice_index (slice_set words (i + 1) n) 0 ≡ slice_index words 0
first_word words i n = get_or-set_other words (i + 1) 0 n 0 (λ e. absurd (omega arith))

module _ {A : Type 0} where
  pub there_below : (l : List A) (i : ℕ) (a : A) → get_elem? l i ≡ some a → i < length l
  there_below [] i a e = absurd (some-ne-none a (sym e))
  there_below (x ∷ xs) zero a e = omega arith
  there_below (x ∷ xs) (suc i) a e = let h = there_below xs i a e in omega arith

  -- there is one value at a place
  pub one_there : (l : List A) (i j : ℕ) (a b : A) → get_elem? l i ≡ some a → get_elem? l j ≡ some b → i ≡ j → a ≡ b
  one_there l i j a b p q e = some-injective a b (sym p ∙ (ap (get_elem? l) e ∙ q))

  pub at_push : (l : List A) (a b : A) (j : ℕ) → get_elem? (l ++ a ∷ []) j ≡ some b
      → (get_elem? l j ≡ some b) ⊎ ((j ≡ length l) × (a ≡ b))
  at_push [] a b zero e = inr (refl, some-injective a b e)
  at_push [] a b (suc j) e = absurd (some-ne-none b (sym e))
  at_push (x ∷ xs) a b zero e = inl e
  at_push (x ∷ xs) a b (suc j) e = ⊎_elim (λ t. inl t) (λ t. let h = t.0 in inr (omega arith, t.1)) (at_push xs a b j e)

module _ {T : Type 0} where
  -- of two live seats at one place
  pub one_live : (views : List (View T)) (i j : ℕ) (v w : View T) → IsLive views i v → IsLive views j w → i ≡ j → v ≡ w
  one_live views i j v w p q e = one_there views i j v w p.there q.there e

  -- the live seats after the view of a live one became w: it, and the others
  pub live_set : (views : List (View T)) (id j : ℕ) (w u : View T) → IsLive (slice_set views id w) j u
      → ((j ≡ id) × (w ≡ u)) ⊎ ((j ≢ id) × IsLive views j u)
  live_set views id j w u p =
      ⊎_elim (λ t. inl t) (λ t. inr (t.0, record { there = t.1; live = p.live })) (at_set views id j w u p.there)

  pub set_live : (views : List (View T)) (id : ℕ) (v w : View T) → IsLive views id v → w.live ≡ true
      → IsLive (slice_set views id w) id w
  set_live views id v w is live = record { there = set_here views id w (there_below views id v is.there); live = live }

  pub else_live : (views : List (View T)) (id j : ℕ) (u w : View T) → j ≢ id → IsLive views j u
      → IsLive (slice_set views id w) j u
  else_live views id j u w ne is = record { there = set_else views id j w ne ∙ is.there; live = is.live }

  -- the live seats after the view of one became that of a badge that isn't live: the others
  pub left_live : (views : List (View T)) (id j : ℕ) (u spent : View T) → spent.live ≡ false
      → IsLive (slice_set views id spent) j u → (j ≢ id) × IsLive views j u
  left_live views id j u spent gone p = ⊎_elim
      (λ t. absurd (true≢false (sym p.live ∙ (sym (ap (λ (x : View T). x.live) t.1) ∙ gone))))
      (λ t. t)
      (live_set views id j spent u p)

  -- the live seats after a seat was added: those before, and the new one
  pub live_push : (views : List (View T)) (new u : View T) (j : ℕ) → IsLive (views ++ new ∷ []) j u
      → IsLive views j u ⊎ ((j ≡ length views) × (new ≡ u))
  live_push views new u j p =
      ⊎_elim (λ t. inl record { there = t; live = p.live }) (λ t. inr t) (at_push views new u j p.there)

  pub push_live : (views : List (View T)) (new u : View T) (j : ℕ) → IsLive views j u → IsLive (views ++ new ∷ []) j u
  push_live views new u j p = record { there = at_longer views (new ∷ []) j u p.there; live = p.live }

  -- v and w are views of one live badge, which split off and joined no other in between
  pub record SameBadge (v w : View T) : Type 0 where
    pub firsts : w.firsts ≡ v.firsts
    pub live : w.live ≡ true
    pub number : w.number ≡ v.number
    pub out : w.out ≡ v.out
    pub splits : w.splits ≡ v.splits
    pub joined : w.joined ≡ v.joined

  pub apart_stays : (views : List (View T)) (id : ℕ) (v w : View T) → IsLive views id v → w.number ≡ v.number
      → Apart views → Apart (slice_set views id w)
  apart_stays views id v w is same apart j k a b pj pk e =
      let number : View T → ℕ = λ x. x.number in
      ⊎_elim
      (λ tj. ⊎_elim
      (λ tk. tj.0 ∙ sym tk.0)
      (λ tk. tj.0 ∙ apart id k v b is tk.1 (sym same ∙ (ap number tj.1 ∙ e)))
      (live_set views id k w b pk))
      (λ tj. ⊎_elim
      (λ tk. apart j id a v tj.1 is (e ∙ (ap number (sym tk.1) ∙ same)) ∙ sym tk.0)
      (λ tk. apart j k a b tj.1 tk.1 e)
      (live_set views id k w b pk))
      (live_set views id j w a pj)

  -- a live badge had this number
  abbrev pub WasLive : List (View T) → ℕ → Type 0
  WasLive views n = (j : ℕ) × (v : View T) × IsLive views j v × (v.number ≡ n)

  pub same_numbers : (views : List (View T)) (id : ℕ) (v w : View T) → IsLive views id v → w.number ≡ v.number
      → (j : ℕ) (u : View T) → IsLive (slice_set views id w) j u → WasLive views u.number
  same_numbers views id v w is same j u p = ⊎_elim
      (λ t. (id, v, is, sym same ∙ ap (λ (x : View T). x.number) t.1))
      (λ t. (j, u, t.1, refl))
      (live_set views id j w u p)

  -- the numbers that were joined, where the numbers of the live badges are among those before
  pub joined_stay : (views after : List (View T)) (f w : View T) → f.joined ≡ w.joined → f.splits ≡ w.splits
      → ((j : ℕ) (u : View T) → IsLive after j u → WasLive views u.number) → AreJoined views f → AreJoined after w
  joined_stay views after f w joined splits was a = record {
    differ = subst AllDiffer joined a.differ;
    spent = λ j u p has.
        let old = was j u p in
        a.spent old.0 old.1 old.2
        (subst (λ n. Has n f.joined) (sym old.3) (subst (Has u.number) (sym joined) has));
    below = λ n has.
        let b = a.below n (subst (Has n) (sym joined) has) in
        (b.0, subst (λ k. n ≤ k) splits b.1);
  }

  -- the first badge itself goes on
  first_goes_on : (views : List (View T)) (id : ℕ) (v w : View T) → IsLive views id v → SameBadge v w → id ≡ 0
      → First views → First (slice_set views id w)
  first_goes_on views id v w is same z f =
      let one : f.view ≡ v = one_live views 0 id f.view v f.is is (sym z) in
      let out : f.view.out ≡ w.out = ap (λ (x : View T). x.out) one ∙ sym same.out in
      let splits : f.view.splits ≡ w.splits = ap (λ (x : View T). x.splits) one ∙ sym same.splits in
      let joined : f.view.joined ≡ w.joined = ap (λ (x : View T). x.joined) one ∙ sym same.joined in
      let joins : length f.view.joined ≡ length w.joined = ap length joined in
      let outs : length f.view.out ≡ length w.out = ap length out in
      let counted = f.counted in
      record {
        view = w;
        is = subst (λ k. IsLive (slice_set views id w) k w) z (set_live views id v w is same.live);
        number = same.number ∙ (ap (λ (x : View T). x.number) (sym one) ∙ f.number);
        others = λ j u pj ne. ⊎_elim
            (λ t. absurd (ne (t.0 ∙ z)))
            (λ t. subst (Has u.number) out (f.others j u t.1 ne))
            (live_set views id j w u pj);
        below = λ n h. let b = f.below n (subst (Has n) (sym out) h) in (b.0, subst (λ k. n ≤ k) splits b.1);
        counted = omega arith;
        joined = joined_stay views (slice_set views id w) f.view w joined splits
            (same_numbers views id v w is same.number) f.joined;
      }

  pub first_stays : (views : List (View T)) (id : ℕ) (v w : View T) → IsLive views id v → SameBadge v w
      → First views → First (slice_set views id w)
  first_stays views id v w is same f =
      dite (ℕ_discrete id 0)
      (λ z. first_goes_on views id v w is same z f)
      (λ nz. record {
        view = f.view;
        is = else_live views id 0 f.view w (λ e. nz (sym e)) f.is;
        number = f.number;
        others = λ j u pj ne. ⊎_elim
            (λ t.
            let number = sym same.number ∙ ap (λ (x : View T). x.number) t.1 in
            subst (λ k. Has k f.view.out) number (f.others id v is nz))
            (λ t. f.others j u t.1 ne)
            (live_set views id j w u pj);
        below = f.below;
        counted = f.counted;
        joined = joined_stay views (slice_set views id w) f.view f.view refl refl
            (same_numbers views id v w is same.number) f.joined;
      })

  -- an owner of slot i stays one where its view changes and keeps the slot
  pub owner_stays : (views : List (View T)) (id i : ℕ) (v w : View T) → IsLive views id v → w.live ≡ true
      → (Has i v.claimed → Has i w.claimed) → Owner views i → Owner (slice_set views id w) i
  owner_stays views id i v w is live keeps o =
      dite (ℕ_discrete o.seat id)
      (λ e. record {
        seat = id;
        view = w;
        is = set_live views id v w is live;
        has = keeps (subst (λ (x : View T). Has i x.claimed) (one_live views o.seat id o.view v o.is is e) o.has);
      })
      (λ ne. record { seat = o.seat; view = o.view; is = else_live views id o.seat o.view w ne o.is; has = o.has })
