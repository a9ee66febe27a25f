-- A pool as it begins.
use Rattle.std.proofs.Common.{◌≡◌, ◌≤◌, ℕ, zero, suc, ◌+◌, ◌<◌, List, [], ◌∷◌, map, take, length, slice_get, replicate, Option, Some, sym, refl, ap, ◌∙◌, subst, arith}
use Rattle.std.proofs.lemmas.List.{length-map, length-replicate, get_or-replicate, take-replicate}
use mathlib.Core.Option as math
use lib.ListN.{get_elem?}
use Rattle.atomic_table.specs.Table.{opening}
use Rattle.lt_pool.specs.declared.view.View.{View}
use Rattle.lt_pool.specs.Views.{first_view}
use Rattle.lt_pool.specs.History.{KnowsAllBy}
use Rattle.lt_pool.specs.Rule.{IsLive, Knows, Kept}

module _ {T : Type 0} where
  -- what lies in slot i as the pool begins
  item_there : (xs : List T) (i : ℕ) → i < length xs
      → (x : T)
      × (get_elem? (map math.some (map Some xs)) i ≡ math.some (math.some (Some x)))
      × (slice_get xs i ≡ Some x)
  item_there [] i h = absurd (omega arith)
  item_there (x ∷ xs) zero h = (x, refl, refl)
  item_there (x ∷ xs) (suc i) h = item_there xs i (omega arith)

  only_first : (v w : View T) (j : ℕ) → IsLive (v ∷ []) j w → (j ≡ 0) × (v ≡ w)
  only_first v w zero p = (refl, math.some-injective v w p.there)
  only_first v w (suc j) p = absurd (math.some-ne-none w (sym p.there))

module _ {T : Type 0} (continues : T → T → Type 0) (firsts : List T) where
  opens_with_noughts : (count : ℕ) → length firsts ≡ count → ((x : T) → continues x x)
      → Kept continues firsts (opening (replicate (count + 1) 0) (map Some firsts) (first_view firsts))
  opens_with_noughts count wide itself = record {
    wide = length-replicate (count + 1) 0 ∙ ap (λ n. n + 1) (sym wide);
    unused = get_or-replicate (count + 1) 0 0 0 (omega arith);
    rows = length-map (map Some firsts) math.some ∙ length-map firsts Some;
    free = λ i li z.
        let h = item_there firsts i li in
        record { item = h.0; there = h.1; fits = (h.0, h.2, itself h.0) };
    taken = λ i li nz. absurd (nz (get_or-replicate (count + 1) (i + 1) 0 0 (omega arith)));
    knows = λ j v p. subst (Knows firsts (replicate (count + 1) 0)) (only_first (first_view firsts) v j p).1
        record { told = refl; claims = λ i h. absurd h; differ = tt; refusals = tt };
    apart = λ j k v w pj pk e.
        (only_first (first_view firsts) v j pj).0 ∙ sym (only_first (first_view firsts) w k pk).0;
    first = record {
      view = first_view firsts;
      is = record { there = refl; live = refl };
      number = refl;
      others = λ j v p ne. absurd (ne (only_first (first_view firsts) v j p).0);
      below = λ n h. absurd h;
      counted = refl;
      joined = record { differ = tt; spent = λ j v p h. h; below = λ n h. absurd h };
    };
    recorded = record {
      history = [];
      found = tt;
      left = λ i li. get_or-replicate (count + 1) (i + 1) 0 0 (omega arith);
      known = λ j v p.
          subst (λ (x : View T). KnowsAllBy x.number x.history []) (only_first (first_view firsts) v j p).1 refl;
      latest = (0, first_view firsts, record { there = refl; live = refl }, refl);
      by = λ u p. tt;
    };
  }

  pub opens : (items : List T) (slots : List (Option T)) (words : List ℕ) (count : ℕ)
      → words ≡ replicate 256 0 → firsts ≡ items → slots ≡ map Some items → count ≡ length items
      → length items ≤ 255 → ((x : T) → continues x x)
      → Kept continues firsts (opening (take (count + 1) words) slots (first_view firsts))
  opens items slots words count noughts same full wide few itself =
      let as_many : count + 1 ≤ 256 = omega arith in
      let start : take (count + 1) words ≡ replicate (count + 1) 0 =
      ap (take (count + 1)) noughts ∙ take-replicate (count + 1) 256 0 as_many in
      let filled : slots ≡ map Some firsts = full ∙ ap (map Some) (sym same) in
      let Opens : List ℕ → List (Option T) → Type 0 = λ ws xs.
      Kept continues firsts (opening ws xs (first_view firsts)) in
      let empty = opens_with_noughts count (ap length same ∙ sym wide) itself in
      subst (λ (ws : List ℕ). Opens ws slots) (sym start)
      (subst (Opens (replicate (count + 1) 0)) (sym filled) empty)
