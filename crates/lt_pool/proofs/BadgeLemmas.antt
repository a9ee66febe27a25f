-- Badges that are split off the first one, or joined into it, keep the rule.
use Rattle.std.proofs.Common.{◌≡◌, ◌≢◌, ℕ, ◌+◌, ◌<◌, ◌≤◌, true, List, [], ◌∷◌, ◌++◌, length, slice_set, Option, sym, refl, ap, ◌∙◌, subst, inl, inr, ⊎_elim, arith}
use Rattle.std.proofs.lemmas.List.{length_push}
use Rattle.atomic_table.specs.Table.{State, Splits, Joins}
use Rattle.atomic_table.proofs.Lists.{set_else}
use Rattle.lt_pool.specs.declared.view.View.{View}
use Rattle.lt_pool.specs.declared.view.Access.{Access}
use Rattle.lt_pool.specs.Rule.{Has, IsLive, AreJoined, Knows, Kept}
use Rattle.lt_pool.specs.Views.{new_view, split_more, split_off, joined_more, spent_view}
use Rattle.lt_pool.proofs.RuleLemmas.{has_without, without_keeps, length-without, has_push, differ_push}
use Rattle.lt_pool.proofs.ViewLemmas.{one_live, live_set, set_live, else_live, left_live, live_push, push_live, WasLive, same_numbers, apart_stays, owner_stays}
use Rattle.lt_pool.proofs.Recording.{record_splits, record_joins}

module _ {T : Type 0} where
  abbrev number_of : View T → ℕ
  number_of v = v.number

  -- what a badge knows doesn't change where other badges are split off it and joined into it
  knows_on : (firsts : List T) (words : List ℕ) (v : View T) (splits : ℕ) (out joined : List ℕ) (history : List Access)
      → Knows firsts words v
      → Knows firsts words (record v { splits = splits; out = out; joined = joined; history = history })
  knows_on firsts words v splits out joined history k =
      record { told = k.told; claims = k.claims; differ = k.differ; refusals = k.refusals }

  -- what a new badge knows
  knows_nothing : (own firsts : List T) (words : List ℕ) (number : ℕ) → own ≡ firsts
      → Knows firsts words (new_view own number)
  knows_nothing own firsts words number told =
      record { told = told; claims = λ i h. absurd h; differ = tt; refusals = tt }

  -- seat `id` is that of the first badge, with the view v
  pub record IsFirst (views : List (View T)) (id : ℕ) (v : View T) : Type 0 where
    pub place : id ≡ 0
    pub others : (j : ℕ) (u : View T) → IsLive views j u → j ≢ id → Has u.number v.out
    pub below : (n : ℕ) → Has n v.out → (0 < n) × (n ≤ v.splits)
    pub counted : length v.out + length v.joined ≡ v.splits
    pub joined : AreJoined views v

  -- the numbers that were joined, after a badge was split off
  split_joined : (views : List (View T)) (id : ℕ) (v : View T) → IsLive views id v → AreJoined views v
      → AreJoined (slice_set views id (split_more v) ++ split_off v ∷ []) (split_more v)
  split_joined views id v is a = record {
    differ = a.differ;
    spent = λ j u p has. ⊎_elim
        (λ old.
        let was = same_numbers views id v (split_more v) is refl j u old in
        a.spent was.0 was.1 was.2 (subst (λ n. Has n v.joined) (sym was.3) has))
        (λ t.
        let new : v.splits + 1 ≡ u.number = ap number_of t.1 in
        let low = (a.below u.number has).1 in
        absurd (omega arith))
        (live_push (slice_set views id (split_more v)) (split_off v) u j p);
    below = λ n has. let b = a.below n has in let low = b.0 in let high = b.1 in (low, omega arith);
  }

  -- the numbers that were joined, after another badge was
  join_joined : (views after : List (View T)) (other : ℕ) (v w : View T) → IsLive views other w → AreJoined views v
      → ((0 < w.number) × (w.number ≤ v.splits))
      → ((j : ℕ) (u : View T) → IsLive after j u → WasLive views u.number × (u.number ≢ w.number))
      → AreJoined after (joined_more v w)
  join_joined views after other v w was a low lives = record {
    differ = differ_push v.joined w.number a.differ (a.spent other w was);
    spent = λ j u p has.
        let l = lives j u p in
        let old = l.0 in ⊎_elim
        (λ h. a.spent old.0 old.1 old.2 (subst (λ n. Has n v.joined) (sym old.3) h))
        (λ e. l.1 e)
        (has_push u.number w.number v.joined has);
    below = λ n has. ⊎_elim
        (λ h. a.below n h)
        (λ e. subst (λ k. (0 < k) × (k ≤ v.splits)) (sym e) low)
        (has_push n w.number v.joined has);
  }

module _ {T : Type 0} (continues : T → T → Type 0) (firsts : List T) where
  -- the badge with number 0 is the first one
  pub first_is : (s : State (Option T) (View T)) (id : ℕ) (v : View T)
      → Kept continues firsts s → IsLive s.views id v → v.number ≡ 0 → IsFirst s.views id v
  first_is s id v r is nought =
      let f = r.first in
      let place : id ≡ 0 = r.apart id 0 v f.view is f.is (nought ∙ sym f.number) in
      subst (IsFirst s.views id) (one_live s.views 0 id f.view v f.is is (sym place)) record {
        place = place;
        others = λ j u p ne. f.others j u p (λ e. ne (e ∙ sym place));
        below = f.below;
        counted = f.counted;
        joined = f.joined;
      }

  pub splits : (id : ℕ) (v : View T) → v.live ≡ true → v.number ≡ 0
      → Splits (Kept continues firsts) id v (split_more v) (split_off v)
  splits id v live nought s r here =
      let w = split_more v in
      let new = split_off v in
      let views = slice_set s.views id w in
      let is : IsLive s.views id v = record { there = here; live = live } in
      let k = r.knows id v is in
      let f = first_is s id v r is nought in
      let old_apart = apart_stays s.views id v w is refl r.apart in
      let old_below : (j : ℕ) (u : View T) → IsLive views j u → u.number ≤ v.splits = λ j u p. ⊎_elim
      (λ t. let none : u.number ≡ 0 = sym (ap number_of t.1) ∙ nought in omega arith)
      (λ t. (f.below u.number (f.others j u t.1 t.0)).1)
      (live_set s.views id j w u p) in
      let not_new : (j : ℕ) (u : View T) → IsLive views j u → u.number ≡ v.splits + 1 → ⊥ = λ j u p e.
      let low = old_below j u p in absurd (omega arith) in
      record {
        wide = r.wide;
        unused = r.unused;
        rows = r.rows;
        free = r.free;
        taken = λ i li nz.
            let o = owner_stays s.views id i v w is live (λ h. h) (r.taken i li nz) in
            record { seat = o.seat; view = o.view; is = push_live views new o.view o.seat o.is; has = o.has };
        knows = λ j u p. ⊎_elim
            (λ old. ⊎_elim
            (λ t. subst (Knows firsts s.words) t.1 (knows_on firsts s.words v w.splits w.out w.joined w.history k))
            (λ t. r.knows j u t.1)
            (live_set s.views id j w u old))
            (λ t. subst (Knows firsts s.words) t.1 (knows_nothing v.firsts firsts s.words (v.splits + 1) k.told))
            (live_push views new u j p);
        apart = λ j i a b pj pi e. ⊎_elim
            (λ oj. ⊎_elim
            (λ oi. old_apart j i a b oj oi e)
            (λ ni. absurd (not_new j a oj (e ∙ sym (ap number_of ni.1))))
            (live_push views new b i pi))
            (λ nj. ⊎_elim
            (λ oi. absurd (not_new i b oi (sym e ∙ sym (ap number_of nj.1))))
            (λ ni. nj.0 ∙ sym ni.0)
            (live_push views new b i pi))
            (live_push views new a j pj);
        first =
            let counted = f.counted in
            record {
              view = w;
              is = push_live views new w 0 (subst (λ x. IsLive views x w) f.place (set_live s.views id v w is live));
              number = nought;
              others = λ j u p ne. ⊎_elim
                  (λ old. ⊎_elim
                  (λ t. absurd (ne (t.0 ∙ f.place)))
                  (λ t. inr (f.others j u t.1 t.0))
                  (live_set s.views id j w u old))
                  (λ t. inl (sym (ap number_of t.1)))
                  (live_push views new u j p);
              below = λ n. ⊎_elim
                  (λ (e : n ≡ v.splits + 1). (omega arith, omega arith))
                  (λ h. let b = f.below n h in let low = b.0 in let high = b.1 in (low, omega arith));
              counted = omega arith;
              joined = split_joined s.views id v is f.joined;
            };
        recorded = record_splits firsts s.words s.views id v is f.place r.recorded;
      }

  pub joins : (id : ℕ) (v : View T) (other : ℕ) (w : View T)
      → v.live ≡ true → v.number ≡ 0 → w.live ≡ true → w.claimed ≡ []
      → Joins (Kept continues firsts) id v other w (joined_more v w) spent_view
  joins id v other w live nought alive none s r here apart there =
      let both = joined_more v w in
      let views = slice_set s.views id both in
      let is : IsLive s.views id v = record { there = here; live = live } in
      let was : IsLive s.views other w = record {
        there = sym (set_else s.views id other both apart) ∙ there;
        live = alive;
      } in
      let k = r.knows id v is in
      let f = first_is s id v r is nought in
      let both_apart = apart_stays s.views id v both is refl r.apart in
      let after = slice_set views other spent_view in
      let lives : (j : ℕ) (u : View T) → IsLive after j u → (j ≢ other) × IsLive views j u = λ j u p.
      left_live views other j u spent_view refl p in
      record {
        wide = r.wide;
        unused = r.unused;
        rows = r.rows;
        free = r.free;
        taken = λ i li nz.
            let o = owner_stays s.views id i v both is live (λ h. h) (r.taken i li nz) in
            let not_other : o.seat ≢ other = λ e.
            let one = one_live views o.seat other o.view w o.is record { there = there; live = alive } e in
            subst (Has i) (ap (λ (x : View T). x.claimed) one ∙ none) o.has in
            record {
              seat = o.seat;
              view = o.view;
              is = else_live views other o.seat o.view spent_view not_other o.is;
              has = o.has;
            };
        knows = λ j u p. ⊎_elim
            (λ t.
            let on = knows_on firsts s.words v both.splits both.out both.joined both.history k in
            subst (Knows firsts s.words) t.1 on)
            (λ t. r.knows j u t.1)
            (live_set s.views id j both u (lives j u p).1);
        apart = λ j i a b pj pi e. both_apart j i a b (lives j a pj).1 (lives i b pi).1 e;
        first =
            let counted = f.counted in
            let one_less = length-without w.number v.out (f.others other w was apart) in
            let one_more = length_push v.joined w.number in
            record {
              view = both;
              is = subst (λ x. IsLive after x both) f.place
                  (else_live views other id both spent_view (λ e. apart (sym e)) (set_live s.views id v both is live));
              number = nought;
              others = λ j u p ne. let l = lives j u p in ⊎_elim
                  (λ t. absurd (ne (t.0 ∙ f.place)))
                  (λ t.
                  let differ : u.number ≢ w.number = λ e. l.0 (r.apart j other u w t.1 was e) in
                  without_keeps w.number u.number v.out differ (f.others j u t.1 t.0))
                  (live_set s.views id j both u l.1);
              below = λ n h. f.below n (has_without w.number n v.out h);
              counted = omega arith;
              joined = join_joined s.views after other v w was f.joined (f.below w.number (f.others other w was apart))
                  (λ j u p.
                  let l = lives j u p in
                  let now : IsLive views other w = record { there = there; live = alive } in (
                    same_numbers s.views id v both is refl j u l.1,
                    (λ e. l.0 (both_apart j other u w l.1 now e)),
                  ));
            };
        recorded = record_joins firsts s.words s.views id other v w is was apart r.recorded;
      }
