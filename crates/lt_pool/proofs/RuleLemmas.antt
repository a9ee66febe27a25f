-- Lists of numbers, and what is in them.
use Rattle.std.proofs.Common.{◌≡◌, ◌≢◌, eqb, ℕ, ◌+◌, List, [], ◌∷◌, cond, length, sym, refl, ap, ◌∙◌, subst, inl, inr, ⊎_elim, eq-eqb, ne_eqb, arith, ◌⊎◌, ◌<◌, true, ◌++◌, slice_index, slice_set, Option, Some, length-set}
use mathlib.Core.Logic.{dite}
use native.Mathlib.Decide.{ℕ_discrete}
use mathlib.Core.Option as math
use lib.ListN.{get_elem?}
use Rattle.atomic_table.specs.Table.{State}
use Rattle.atomic_table.proofs.Lists.{set_here, set_else}
use Rattle.lt_pool.specs.Rule.{Has, without_first, AllDiffer, ContinuesAt, NoneReadZero, IsLive, Owner, Knows, Recorded, Home, Kept}
use Rattle.lt_pool.specs.declared.view.View.{View}
use Rattle.lt_pool.specs.declared.view.Access.{Access}
use Rattle.lt_pool.specs.History.{claim_access, refusal_access, give_access}
use Rattle.lt_pool.specs.Views.{claimed_more, refused_more, claimed_less}
use Rattle.lt_pool.specs.PoolLaws.{AtHome, InOneHand}
use Rattle.lt_pool.proofs.ViewLemmas.{SameBadge, word_here, word_else, first_word, live_set, set_live, apart_stays, first_stays, owner_stays}
use Rattle.lt_pool.proofs.Recording.{records, record_stays}
use Rattle.lt_pool.proofs.Forwarding.{Homes}

-- the two cases of a test on numbers
chosen : {A : Type 0} (i x : ℕ) (F : A → Type 0) (a b : A) → (i ≡ x → F a) → (i ≢ x → F b) → F (cond (eqb i x) a b)
chosen i x F a b same other =
    dite (ℕ_discrete i x)
    (λ e. subst (λ t. F (cond t a b)) (sym (eq-eqb i x e)) (same e))
    (λ ne. subst (λ t. F (cond t a b)) (sym (ne_eqb i x ne)) (other ne))

pub has_without : (i j : ℕ) (xs : List ℕ) → Has j (without_first i xs) → Has j xs
has_without i j [] h = h
has_without i j (x ∷ xs) h =
    chosen i x (λ (ys : List ℕ). Has j ys → Has j (x ∷ xs)) xs (x ∷ without_first i xs)
    (λ e t. inr t)
    (λ ne. ⊎_elim (λ e. inl e) (λ t. inr (has_without i j xs t)))
    h

pub without_keeps : (i j : ℕ) (xs : List ℕ) → j ≢ i → Has j xs → Has j (without_first i xs)
without_keeps i j [] ne h = h
without_keeps i j (x ∷ xs) ne h =
    chosen i x (λ (ys : List ℕ). Has j ys) xs (x ∷ without_first i xs)
    (λ e. ⊎_elim (λ (f : j ≡ x). absurd (ne (f ∙ sym e))) (λ t. t) h)
    (λ other. ⊎_elim (λ f. inl f) (λ t. inr (without_keeps i j xs ne t)) h)

pub without_it : (i : ℕ) (xs : List ℕ) → AllDiffer xs → Has i (without_first i xs) → ⊥
without_it i [] d h = h
without_it i (x ∷ xs) d h =
    chosen i x (λ (ys : List ℕ). Has i ys → ⊥) xs (x ∷ without_first i xs)
    (λ e t. d.0 (subst (λ y. Has y xs) e t))
    (λ ne. ⊎_elim ne (without_it i xs d.1))
    h

pub differ_without : (i : ℕ) (xs : List ℕ) → AllDiffer xs → AllDiffer (without_first i xs)
differ_without i [] d = d
differ_without i (x ∷ xs) d =
    chosen i x AllDiffer xs (x ∷ without_first i xs)
    (λ e. d.1)
    (λ ne. ((λ h. d.0 (has_without i x xs h)), differ_without i xs d.1))

pub length-without : (i : ℕ) (xs : List ℕ) → Has i xs → length (without_first i xs) + 1 ≡ length xs
length-without i [] h = absurd h
length-without i (x ∷ xs) h =
    chosen i x (λ (ys : List ℕ). length ys + 1 ≡ length (x ∷ xs)) xs (x ∷ without_first i xs)
    (λ e. omega arith)
    (λ ne. ⊎_elim (λ e. absurd (ne e)) (λ t. let shorter = length-without i xs t in omega arith) h)

pub without_front : (i : ℕ) (xs : List ℕ) → without_first i (i ∷ xs) ≡ xs
without_front i xs = ap (λ t. cond t xs (i ∷ without_first i xs)) (eq-eqb i i refl)

pub has_push : (i x : ℕ) (xs : List ℕ) → Has i (xs ++ x ∷ []) → Has i xs ⊎ (i ≡ x)
has_push i x [] h = ⊎_elim (λ e. inr e) (λ t. absurd t) h
has_push i x (y ∷ ys) h = ⊎_elim
    (λ e. inl (inl e))
    (λ t. ⊎_elim (λ u. inl (inr u)) (λ e. inr e) (has_push i x ys t))
    h

pub differ_push : (xs : List ℕ) (x : ℕ) → AllDiffer xs → (Has x xs → ⊥) → AllDiffer (xs ++ x ∷ [])
differ_push [] x d new = ((λ h. h), tt)
differ_push (y ∷ ys) x d new = (
  (λ h. ⊎_elim (λ t. d.0 t) (λ e. new (inl (sym e))) (has_push y x ys h)),
  differ_push ys x d.1 (λ h. new (inr h)),
)

pub none_in_none : (n : ℕ) (xs : List ℕ) → length xs ≡ 0 → Has n xs → ⊥
none_in_none n [] e h = h
none_in_none n (x ∷ xs) e h = absurd (omega arith)

-- How the rule of a pool goes on where the word of a slot, its home and the view of one badge change.

none_zero_push : (refused : List (ℕ × ℕ)) (i word : ℕ) → word ≢ 0 → NoneReadZero refused
    → NoneReadZero (refused ++ (i, word) ∷ [])
none_zero_push [] i word ne h = (ne, tt)
none_zero_push (x ∷ xs) i word ne h = (h.0, none_zero_push xs i word ne h.1)

module _ {T : Type 0} where
  same_badge : (v : View T) (claimed : List ℕ) (refused : List (ℕ × ℕ)) (history : List Access) → v.live ≡ true
      → SameBadge v (record v { claimed = claimed; refused = refused; history = history })
  same_badge v claimed refused history live = record {
    firsts = refl;
    live = live;
    number = refl;
    out = refl;
    splits = refl;
    joined = refl;
  }

  -- what a badge knows that doesn't have slot i, after the word of slot i changed
  knows_else : (firsts : List T) (words : List ℕ) (i n : ℕ) (v : View T) → (Has i v.claimed → ⊥)
      → Knows firsts words v → Knows firsts (slice_set words (i + 1) n) v
  knows_else firsts words i n v not k = record {
    told = k.told;
    claims = λ j h.
        let c = k.claims j h in
        (c.0, word_else words i j n (λ e. not (subst (λ x. Has x v.claimed) e h)) ∙ c.1);
    differ = k.differ;
    refusals = k.refusals;
  }

module _ {T : Type 0} (continues : T → T → Type 0) (firsts : List T) where
  abbrev Rule : State (Option T) (View T) → Type 0
  Rule s = Kept continues firsts s

  -- no live badge has a slot whose word is 0
  not_free : (s : State (Option T) (View T)) (j i : ℕ) (v : View T) → Rule s → IsLive s.views j v
      → slice_index s.words (i + 1) ≡ 0 → Has i v.claimed → ⊥
  not_free s j i v r is free has =
      let c = (r.knows j v is).claims i has in
      let one_more : v.number + 1 ≡ 0 = sym c.1 ∙ free in
      absurd (omega arith)

  -- no two of them have one slot
  not_both : (s : State (Option T) (View T)) (j k i : ℕ) (v w : View T)
      → Rule s → IsLive s.views j v → IsLive s.views k w → Has i v.claimed → Has i w.claimed → j ≡ k
  not_both s j k i v w r vis wis hv hw =
      let mine = ((r.knows j v vis).claims i hv).1 in
      let theirs = ((r.knows k w wis).claims i hw).1 in
      let same : v.number + 1 ≡ w.number + 1 = sym mine ∙ theirs in
      r.apart j k v w vis wis (omega arith)

  pub in_one_place : (s : State (Option T) (View T)) → Rule s → (i : ℕ) → i < length firsts
      → AtHome continues firsts s i ⊎ InOneHand s i
  in_one_place s r i li =
      dite (ℕ_discrete (slice_index s.words (i + 1)) 0)
      (λ free. inl record { free = free; item = r.free i li free; nobody = λ j v is. not_free s j i v r is free })
      (λ nz. let o = r.taken i li nz in
      let word = ((r.knows o.seat o.view o.is).claims i o.has).1 in
      inr record { owner = o; word = word; only = λ j v is has. not_both s j o.seat i v o.view r is o.is has o.has })

  -- a step of seat `id`, whose view becomes w
  after_step : (s : State (Option T) (View T)) (id : ℕ) (v w : View T) (words : List ℕ) (homes : Homes T)
      → Rule s → IsLive s.views id v → SameBadge v w → length words ≡ length s.words → slice_index words 0 ≡ 0
      → length homes ≡ length s.homes → Recorded firsts words (slice_set s.views id w)
      → ((i : ℕ) → i < length firsts → slice_index words (i + 1) ≡ 0 → Home continues firsts homes i)
      → ((i : ℕ) → i < length firsts → slice_index words (i + 1) ≢ 0 → Owner (slice_set s.views id w) i)
      → Knows firsts words w → ((j : ℕ) (u : View T) → j ≢ id → IsLive s.views j u → Knows firsts words u)
      → Rule record { words = words; homes = homes; views = slice_set s.views id w }
  after_step s id v w words homes r is same wide unused rows recorded free taken mine others = record {
    wide = wide ∙ r.wide;
    unused = unused;
    rows = rows ∙ r.rows;
    free = free;
    taken = taken;
    knows = λ j u pj. ⊎_elim
        (λ t. subst (Knows firsts words) t.1 mine)
        (λ t. others j u t.0 t.1)
        (live_set s.views id j w u pj);
    apart = apart_stays s.views id v w is same.number r.apart;
    first = first_stays s.views id v w is same r.first;
    recorded = recorded;
  }

  -- the view changes but keeps its slots, in whatever order, and what is at home in the other slots stays
  pub view_changes : (s : State (Option T) (View T)) (id : ℕ) (v : View T)
      (claimed : List ℕ) (refused : List (ℕ × ℕ)) (history : List Access) (homes : Homes T)
      → Rule s → IsLive s.views id v
      → Recorded firsts s.words
      (slice_set s.views id (record v { claimed = claimed; refused = refused; history = history }))
      → ((i : ℕ) → Has i claimed → Has i v.claimed) → ((i : ℕ) → Has i v.claimed → Has i claimed)
      → AllDiffer claimed → NoneReadZero refused
      → length homes ≡ length s.homes → ((i : ℕ) → (Has i v.claimed → ⊥) → get_elem? homes i ≡ get_elem? s.homes i)
      → Rule record {
        words = s.words;
        homes = homes;
        views = slice_set s.views id (record v { claimed = claimed; refused = refused; history = history });
      }
  view_changes s id v claimed refused history homes r is recorded back forth differ refusals rows else =
      let w = record v { claimed = claimed; refused = refused; history = history } in
      let k = r.knows id v is in
      after_step s id v w s.words homes r is (same_badge v claimed refused history is.live) refl r.unused rows recorded
      (λ i li free.
      let h = r.free i li free in
      record { item = h.item; there = else i (not_free s id i v r is free) ∙ h.there; fits = h.fits })
      (λ i li ne. owner_stays s.views id i v w is is.live (forth i) (r.taken i li ne))
      record { told = k.told; claims = λ i h. k.claims i (back i h); differ = differ; refusals = refusals }
      (λ j u ne. r.knows j u)

  -- the slots of a badge come into another order
  pub reorders : (s : State (Option T) (View T)) (id : ℕ) (v : View T) (claimed : List ℕ)
      → Rule s → IsLive s.views id v
      → Recorded firsts s.words (slice_set s.views id (record v { claimed = claimed }))
  reorders s id v claimed r is =
      let w = record v { claimed = claimed } in
      record_stays firsts s.words s.views id v w is is.live refl refl refl r.recorded

  pub refuses : (s : State (Option T) (View T)) (id i word : ℕ) (v : View T) (r : Rule s) → i < length firsts
      → IsLive s.views id v → slice_index s.words (i + 1) ≡ word → word ≢ 0
      → Rule record {
        words = s.words;
        homes = s.homes;
        views = slice_set s.views id (refused_more i word r.recorded.history v);
      }
  refuses s id i word v r li is found ne =
      let k = r.knows id v is in
      let history = refusal_access v.number i word ∷ r.recorded.history in
      let w = refused_more i word r.recorded.history v in
      let recorded = records firsts s.words s.words s.views id v w (refusal_access v.number i word)
      r.apart r.first is is.live refl r.recorded refl refl li (sym found) found (λ j other. refl) in
      view_changes s id v v.claimed w.refused history s.homes r is recorded (λ j h. h) (λ j h. h) k.differ
      (none_zero_push v.refused i word ne k.refusals) refl (λ j not. refl)

  pub goes_out : (s : State (Option T) (View T)) (id i : ℕ) (v : View T)
      → i < length firsts → (r : Rule s) → IsLive s.views id v
      → slice_index s.words (i + 1) ≡ 0
      → Rule record {
        words = slice_set s.words (i + 1) (v.number + 1);
        homes = slice_set s.homes i math.none;
        views = slice_set s.views id (claimed_more i r.recorded.history v);
      }
  goes_out s id i v li r is free =
      let w = claimed_more i r.recorded.history v in
      let n = v.number + 1 in
      let words = slice_set s.words (i + 1) n in
      let wide = r.wide in
      let here : slice_index words (i + 1) ≡ n = word_here s.words i n (omega arith) in
      let k = r.knows id v is in
      let recorded = records firsts s.words words s.views id v w (claim_access v.number i)
      r.apart r.first is is.live refl r.recorded refl refl li (sym free) here (λ j ne. word_else s.words i j n ne) in
      after_step s id v w words (slice_set s.homes i math.none) r is
      (same_badge v (i ∷ v.claimed) v.refused w.history is.live)
      (length-set s.words (i + 1) n) (first_word s.words i n ∙ r.unused) (length-set s.homes i math.none) recorded
      (λ j lj z. dite (ℕ_discrete j i)
      (λ e. let nought : n ≡ 0 = sym here ∙ (ap (λ x. slice_index words (x + 1)) (sym e) ∙ z) in absurd (omega arith))
      (λ ne. let h = r.free j lj (sym (word_else s.words i j n ne) ∙ z) in
      record { item = h.item; there = set_else s.homes i j math.none ne ∙ h.there; fits = h.fits }))
      (λ j lj nz. dite (ℕ_discrete j i)
      (λ e. record { seat = id; view = w; is = set_live s.views id v w is is.live; has = inl e })
      (λ ne.
      let before = r.taken j lj (λ z. nz (word_else s.words i j n ne ∙ z)) in
      owner_stays s.views id j v w is is.live (λ h. inr h) before))
      record {
        told = k.told;
        claims = λ j. ⊎_elim
            (λ (e : j ≡ i). (subst (λ x. x < length firsts) (sym e) li, ap (λ x. slice_index words (x + 1)) e ∙ here))
            (λ h. (knows_else firsts s.words i n v (not_free s id i v r is free) k).claims j h);
        differ = (not_free s id i v r is free, k.differ);
        refusals = k.refusals;
      }
      (λ j u ne uis. knows_else firsts s.words i n u (not_free s j i u r uis free) (r.knows j u uis))

  pub comes_home : (s : State (Option T) (View T)) (id i : ℕ) (v : View T) (item : T)
      → i < length firsts → Has i v.claimed
      → ContinuesAt continues firsts i item → (r : Rule s) → IsLive s.views id v
      → Rule record {
        words = slice_set s.words (i + 1) 0;
        homes = slice_set s.homes i (math.some (Some item));
        views = slice_set s.views id (claimed_less i r.recorded.history v);
      }
  comes_home s id i v item li has fits r is =
      let w = claimed_less i r.recorded.history v in
      let words = slice_set s.words (i + 1) 0 in
      let homes = slice_set s.homes i (math.some (Some item)) in
      let wide = r.wide in
      let rows = r.rows in
      let here : slice_index words (i + 1) ≡ 0 = word_here s.words i 0 (omega arith) in
      let k = r.knows id v is in
      let recorded = records firsts s.words words s.views id v w (give_access v.number i)
      r.apart r.first is is.live refl r.recorded refl refl li (sym (k.claims i has).1) here
      (λ j ne. word_else s.words i j 0 ne) in
      after_step s id v w words homes r is (same_badge v (without_first i v.claimed) v.refused w.history is.live)
      (length-set s.words (i + 1) 0) (first_word s.words i 0 ∙ r.unused) (length-set s.homes i (math.some (Some item)))
      recorded
      (λ j lj z. dite (ℕ_discrete j i)
      (λ e. subst (Home continues firsts homes) (sym e)
      record { item = item; there = set_here s.homes i (math.some (Some item)) (omega arith); fits = fits })
      (λ ne. let h = r.free j lj (sym (word_else s.words i j 0 ne) ∙ z) in
      record { item = h.item; there = set_else s.homes i j (math.some (Some item)) ne ∙ h.there; fits = h.fits }))
      (λ j lj nz. dite (ℕ_discrete j i)
      (λ e. absurd (nz (ap (λ x. slice_index words (x + 1)) e ∙ here)))
      (λ ne.
      let before = r.taken j lj (λ z. nz (word_else s.words i j 0 ne ∙ z)) in
      owner_stays s.views id j v w is is.live (without_keeps i j v.claimed ne) before))
      record {
        told = k.told;
        claims = λ j h. let c = k.claims j (has_without i j v.claimed h) in
            let other : j ≢ i = λ e. without_it i v.claimed k.differ (subst (λ x. Has x (without_first i v.claimed)) e h) in
            (c.0, word_else s.words i j 0 other ∙ c.1);
        differ = differ_without i v.claimed k.differ;
        refusals = k.refusals;
      }
      (λ j u ne uis. knows_else firsts s.words i 0 u (λ h. ne (not_both s j id i u v r uis is h has)) (r.knows j u uis))
