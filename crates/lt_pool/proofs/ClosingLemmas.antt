-- A pool as it ends.
use Rattle.std.proofs.Common.{Bool, false, get_or, slice_set, get_or-set_other, get_or-set_same, ◌≡◌, ℕ, zero, suc, ◌+◌, ◌<◌, true, List, [], ◌∷◌, ◌++◌, map, take, length, slice_index, Option, Some, unwrap_or, add-one, sym, ap, ◌∙◌, subst, arith}
use Rattle.std.proofs.lemmas.List.{length-map, map-append}
use mathlib.Core.Logic.{dite}
use mathlib.Core.Option as math
use native.Mathlib.Decide.{ℕ_discrete}
use lib.ListN.{get_elem?}
use Rattle.std.specs.Mem.Slots.Ownership.{Filled}
use Rattle.atomic_table.specs.Table.{State, Final, Seen}
use Rattle.lt_pool.specs.declared.view.View.{View}
use Rattle.lt_pool.specs.Rule.{Has, ContinuesAt, EachContinues, AllSome, IsLive, Home, Kept}
use Rattle.lt_pool.proofs.RuleLemmas.{none_in_none}
use Rattle.lt_pool.proofs.ViewLemmas.{there_below, one_live}
use Rattle.lt_pool.proofs.BadgeLemmas.{first_is}

some_is : {T : Type 0} (x y : T) → Some x ≡ Some y → x ≡ y
some_is {T} x y e = ap (λ (o : Option T). unwrap_or o x) e

module _ {T : Type 0} (continues : T → T → Type 0) (firsts : List T) where
  -- where the first badge has no slot, and all that were split off it were joined, each slot is free
  all_free : (s : State (Option T) (View T)) (id : ℕ) (v : View T) → Kept continues firsts s → IsLive s.views id v
      → v.number ≡ 0 → v.claimed ≡ [] → length v.joined ≡ v.splits
      → (i : ℕ) → i < length firsts → slice_index s.words (i + 1) ≡ 0
  all_free s id v r is nought none joined i li =
      let f = first_is continues firsts s id v r is nought in
      let counted = f.counted in
      let no_out : length v.out ≡ 0 = omega arith in
      dite (ℕ_discrete (slice_index s.words (i + 1)) 0)
      (λ z. z)
      (λ nz. let o = r.taken i li nz in absurd (dite (ℕ_discrete o.seat id)
      (λ e. subst (Has i) (ap (λ (x : View T). x.claimed) (one_live s.views o.seat id o.view v o.is is e) ∙ none) o.has)
      (λ ne. none_in_none o.view.number v.out no_out (f.others o.seat o.view o.is ne))))

  -- what lies in the slots at the end
  pub record Left (slots : List (Option T)) : Type 0 where
    pub wide : length slots ≡ length firsts
    pub full : AllSome slots
    pub fits : (i : ℕ) (y : T) → get_elem? slots i ≡ math.some (Some y) → ContinuesAt continues firsts i y

  pub leaves : (id : ℕ) (v : View T) (words : List ℕ) (slots : List (Option T))
      → v.live ≡ true → v.number ≡ 0 → v.claimed ≡ [] → length v.joined ≡ v.splits
      → Final (Seen (Kept continues firsts) id v) words slots → Left slots
  leaves id v words slots live nought none joined end =
      let s = end.0 in
      let r = end.1.0 in
      let wide : length slots ≡ length firsts = sym end.3 ∙ r.rows in
      let free = all_free s id v r record { there = end.1.1; live = live } nought none joined in
      let home : (i : ℕ) → i < length slots → Home continues firsts s.homes i = λ i li.
      let inside = subst (λ n. i < n) wide li in r.free i inside (free i inside) in
      record {
        wide = wide;
        full = λ i li. let h = home i li in (h.item, end.4 i (Some h.item) h.there);
        fits = λ i y e.
            let h = home i (there_below slots i (Some y) e) in
            let one = math.some-injective (Some h.item) (Some y) (sym (end.4 i (Some h.item) h.there) ∙ e) in
            subst (ContinuesAt continues firsts i) (some_is h.item y one) h.fits;
      }

module _ {T : Type 0} (continues : T → T → Type 0) where
  each_continues : (firsts ys : List T) → length ys ≡ length firsts
      → ((i : ℕ) (y : T) → get_elem? (map Some ys) i ≡ math.some (Some y) → ContinuesAt continues firsts i y)
      → EachContinues continues firsts ys
  each_continues [] [] e fits k = tt
  each_continues [] (y ∷ ys) e fits k = absurd (omega arith)
  each_continues (x ∷ xs) [] e fits k = absurd (omega arith)
  each_continues (x ∷ xs) (y ∷ ys) e fits zero =
      let here = fits 0 y (λ i. math.some (Some y)) in
      subst (λ z. continues z y) (sym (some_is x here.0 here.1)) here.2
  each_continues (x ∷ xs) (y ∷ ys) e fits (suc k) =
      each_continues xs ys (omega arith) (λ i z there. fits (suc i) z there) k

  pub left_continue : (firsts ys : List T) (slots : List (Option T)) → map Some ys ≡ slots → Left continues firsts slots
      → EachContinues continues firsts ys
  left_continue firsts ys slots e left =
      each_continues firsts ys (sym (length-map ys Some) ∙ (ap length e ∙ left.wide))
      (λ i y there. left.fits i y (ap (λ zs. get_elem? zs i) (sym e) ∙ there))

module _ {A : Type 0} where
  take_one_more : (xs : List A) (i : ℕ) (z : A) → get_elem? xs i ≡ math.some z → take (suc i) xs ≡ take i xs ++ z ∷ []
  take_one_more [] i z e = absurd (math.some-ne-none z (sym e))
  take_one_more (x ∷ xs) zero z e = ap (λ y. y ∷ []) (math.some-injective x z e)
  take_one_more (x ∷ xs) (suc i) z e = ap (λ ys. x ∷ ys) (take_one_more xs i z e)

module _ {T : Type 0} where
  pub one_more : (slots : List (Option T)) (i : ℕ) (items : List T) (x : T) → get_elem? slots i ≡ math.some (Some x)
      → map Some items ≡ take i slots → map Some (items ++ x ∷ []) ≡ take (i + 1) slots
  one_more slots i items x there e =
      map-append Some items (x ∷ [])
      ∙ (ap (λ zs. zs ++ Some x ∷ []) e
      ∙ (sym (take_one_more slots i (Some x) there) ∙ ap (λ n. take n slots) (sym (add-one i))))

module _ (full after : List Bool) (i : ℕ) where
  -- the slots from i on were full before slot i was emptied
  pub still_full : (n : ℕ) → after ≡ slice_set full i false → Filled full i n → Filled after (i + 1) n
  still_full n e f =
      subst (λ (bs : List Bool). Filled bs (i + 1) n) (sym e)
      (λ k low high. get_or-set_other full i k false false (λ is. omega arith) ∙ f k (omega arith) high)

  -- those before it were empty
  pub now_empty : after ≡ slice_set full i false → i < length full → ((k : ℕ) → k < i → get_or full k false ≡ false)
      → (k : ℕ) → k < i + 1 → get_or after k false ≡ false
  now_empty e inside f =
      subst (λ (bs : List Bool). (k : ℕ) → k < i + 1 → get_or bs k false ≡ false) (sym e)
      (λ k h. dite (ℕ_discrete k i)
      (λ is. ap (λ x. get_or (slice_set full i false) x false) is ∙ get_or-set_same full i false false inside)
      (λ ne. get_or-set_other full i k false false ne ∙ f k (omega arith)))
