-- Each client that is led to some clients waits behind them.
use Rattle.std.proofs.Common.{◌≡◌, ◌∙◌, ℕ, zero, suc, ◌<◌, ◌≤◌, inl, inr, List, [], ◌∷◌, length, Option, Some, None, Bool, true, false, refl, sym, subst, ap, arith, ◌⊎◌, ◌==◌, is_some, not, flat_map, Contains, eq-eqb, eqb-true}
use Rattle.std.specs.List.{list_any}
use Rattle.std.proofs.lemmas.Bool.{false≢true}
use Rattle.std.proofs.lemmas.List.Elements.{Contains-append_left, Contains-append_right}
use Rattle.std.proofs.lemmas.List.FromFn.{length-range_with_len}
use Rattle.lt_lists.proofs.Members.{contains_first, contains_cases, contains_filter, contains_filtered, list_any-at, list_any-which, none_in}
use Rattle.lt_spec.specs.Rings.{Graph, has_come, next_among, numbers_below}
use Rattle.lt_waits.specs.Edges.{edge}
use Rattle.lt_waits.specs.Shortest.{waiting_for, not_waiting_for, IsLayer, LeadsOut}
use Rattle.lt_waits.specs.Behind.{or_else, nearest, edge_to, edges_to, behind_from, all_but}
use Rattle.lt_waits.specs.BehindLaws.{BehindAreAll}
use Rattle.lt_waits.proofs.SoFar.{filter_few}
use Rattle.lt_waits.proofs.Layers.{among_or, find_tells, not_both, of_next, of_rest, next_or_rest, next_layer, parts, shorter}
use Rattle.lt_law_waiting.proofs.RingWalks.{in_below, below_in}

-- what each item makes is in what all make
flat_map-at : {X Y : Type 0} (f : X → List Y) (xs : List X) (x : X) (y : Y) → Contains xs x → Contains (f x) y → Contains (flat_map f xs) y
flat_map-at f [] x y there made = none_in x there
flat_map-at f (first ∷ rest) x y there made = elim (contains_cases first x rest there) [
  | inl same ↦ Contains-append_left (f first) (flat_map f rest) y (subst (λ v. Contains (f v) y) (sym same) made)
  | inr later ↦ Contains-append_right (f first) (flat_map f rest) y (flat_map-at f rest x y later made)
]

-- a client that waits for one of the others has an edge to one of them
waits_to : (locks graph : Graph) (others clients : List ℕ) (c : ℕ) → Contains clients c → list_any (graph c) others ≡ true
    → (other : ℕ) × Contains (edges_to locks graph others clients) (edge c other)
waits_to locks graph others clients c there waits = by_lock (next_among locks others c) (next_among graph others c) refl refl
  where
    at : (other : ℕ) → nearest locks graph others c ≡ Some other → Contains (edges_to locks graph others clients) (edge c other)
    at other e =
        flat_map-at (λ x. edge_to x (nearest locks graph others x)) clients c (edge c other) there
        (subst (λ (o : Option ℕ). Contains (edge_to c o) (edge c other)) (sym e) (contains_first (edge c other) (edge c other) [] refl))

    by_lock : (first second : Option ℕ) → next_among locks others c ≡ first → next_among graph others c ≡ second
        → (other : ℕ) × Contains (edges_to locks graph others clients) (edge c other)
    by_lock (Some other) second e f = (other, at other (ap (λ (o : Option ℕ). or_else o (next_among graph others c)) e))
    by_lock None (Some other) e f = (other, at other (ap (λ (o : Option ℕ). or_else o (next_among graph others c)) e ∙ f))
    by_lock None None e f = absurd (false≢true (ap is_some (sym f) ∙ find_tells (graph c) others ∙ waits))

-- rounds that are as many as are left find each one that is led out of them
found : (n : ℕ) (locks graph : Graph) (c k : ℕ) (layer left path : List ℕ) (last : ℕ) → length left ≤ k → IsLayer n graph layer left → Contains left c
    → (Contains layer c → ⊥) → LeadsOut n graph c left path last → (other : ℕ) × Contains (behind_from k locks graph layer left) (edge c other)
found n locks graph c zero layer left path last few is there never leads = absurd (omega (arith, few, there.1))
found n locks graph c (suc k) layer left path last few is there never leads =
    by_place (λ part end fewer next_is stays out goes. found n locks graph c k next rest part end fewer next_is stays out goes) (next_or_rest graph layer left c there)
  where
    next : List ℕ
    next = waiting_for graph layer left

    rest : List ℕ
    rest = not_waiting_for graph layer left

    by_place : ((part : List ℕ) (end : ℕ) → length rest ≤ k → IsLayer n graph next rest → Contains rest c → (Contains next c → ⊥) → LeadsOut n graph c rest part end
        → (other : ℕ) × Contains (behind_from k locks graph next rest) (edge c other))
        → Contains rest c ⊎ Contains next c → (other : ℕ) × Contains (behind_from (suc k) locks graph layer left) (edge c other)
    by_place again (inr goes) =
        let to = waits_to locks graph layer left c there (of_next graph layer left c goes).1 in
        (to.0, Contains-append_left (edges_to locks graph layer left) (behind_from k locks graph next rest) (edge c to.0) to.1)
    by_place again (inl stays) =
        let s = shorter n graph c layer left path last is (inl there) never leads in
        let fewer : length rest ≤ k = omega (arith, few, parts graph layer left, s.next.1) in
        let later = again s.part s.last fewer (next_layer graph layer left n is) stays
        (λ goes. not_both (list_any (graph c) layer) (of_next graph layer left c goes).1 (of_rest graph layer left c stays).1) s.leads in
        (later.0, Contains-append_right (edges_to locks graph layer left) (behind_from k locks graph next rest) (edge c later.0) later.1)

pub come : (clients : List ℕ) (c : ℕ) → Contains clients c → has_come clients c ≡ true
come clients c there = list_any-at (λ d. c == d) clients c there (eq-eqb c c refl)

pub not_come : (clients : List ℕ) (c : ℕ) → (Contains clients c → ⊥) → not (has_come clients c) ≡ true
not_come clients c out = by_test (has_come clients c) refl
  where
    by_test : (t : Bool) → has_come clients c ≡ t → not (has_come clients c) ≡ true
    by_test false e = ap not e
    by_test true e = let at = list_any-which (λ d. c == d) clients e in absurd (out (subst (Contains clients) (sym (eqb-true c at.0 at.2)) at.1))

-- those that aren't these
pub in_others : (n : ℕ) (clients : List ℕ) (c : ℕ) → c < n → (Contains clients c → ⊥) → Contains (all_but n clients) c
in_others n clients c below out = contains_filter (λ x. not (has_come clients x)) (numbers_below n) c (in_below n c below) (not_come clients c out)

pub of_others : (n : ℕ) (clients : List ℕ) (c : ℕ) → Contains (all_but n clients) c → (c < n) × (Contains clients c → ⊥)
of_others n clients c there =
    let of = contains_filtered (λ x. not (has_come clients x)) (numbers_below n) c there in
    (below_in n c of.0, λ among. not_both (has_come clients c) (come clients c among) of.1)

first_layer : (n : ℕ) (graph : Graph) (clients : List ℕ) → IsLayer n graph clients (all_but n clients)
first_layer n graph clients c d there under out on = elim (among_or clients d) [
  | inl among ↦ among
  | inr apart ↦ absurd (out (in_others n clients d under apart))
]

pub behind_are_all : BehindAreAll
behind_are_all n locks graph clients below c out (rest, last, under, goes, reaches) =
    found n locks graph c n clients (all_but n clients) (c ∷ rest) last
    (omega (arith, filter_few (λ x. not (has_come clients x)) (numbers_below n), length-range_with_len 0 n))
    (first_layer n graph clients)
    (in_others n clients c (under c (contains_first c c rest refl)) out)
    out
    (record {
      goes = goes;
      first = refl;
      below = under;
      last_below = below last reaches;
      out = λ stays. (of_others n clients last stays).1 reaches;
    })
