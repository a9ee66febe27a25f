-- The rings of few clients.
use Rattle.std.proofs.Common.{◌≡◌, ◌<◌, ◌==◌, ◌⊎◌, ◌∷◌, [], ℕ, zero, suc, List, false, IsTrue, inl, inr, refl, sym, subst, arith, ◌∙◌}
use Rattle.std.specs.List.{IsDistinct}
use Rattle.std.proofs.lemmas.Bool.{false≢true}
use Rattle.std.proofs.lemmas.Map.Keys.{IsDistinct-head, IsDistinct-tail}
use Rattle.lt_lists.proofs.Members.{contains_first, contains_later, contains_cases}
use Rattle.lt_spec.specs.Rings.{Graph, AreBelow, IsRing, first_or}
use Rattle.lt_waits.specs.Shortest.{IsRingOf, HasRing}
use Rattle.lt_law_pinned.specs.WhyCalls.{nobody_waits, WhyRingsAre}

below_first : (n c : ℕ) (rest : List ℕ) → AreBelow n (c ∷ rest) → c < n
below_first n c rest below = below c (contains_first c c rest refl)

below_rest : (n c : ℕ) (rest : List ℕ) → AreBelow n (c ∷ rest) → AreBelow n rest
below_rest n c rest below d there = below d (contains_later c d rest there)

next_below : (n goal : ℕ) (rest : List ℕ) → goal < n → AreBelow n rest → first_or goal rest < n
next_below n goal [] under below = under
next_below n goal (c ∷ rest) under below = below_first n c rest below

-- the first of clients that differ is neither the second nor the third
head_apart : (c d : ℕ) (rest : List ℕ) → IsDistinct (λ a b. a == b) (c ∷ d ∷ rest) → (c == d) ≡ false
head_apart c d rest apart = (IsDistinct-head (λ a b. a == b) c (d ∷ rest) apart).0

second_apart : (c d e : ℕ) (rest : List ℕ) → IsDistinct (λ a b. a == b) (c ∷ d ∷ e ∷ rest) → (c == e) ≡ false
second_apart c d e rest apart = (IsDistinct-head (λ a b. a == b) c (d ∷ e ∷ rest) apart).1.0

-- of three clients below 2 two are the same
two_of_three : (c d e : ℕ) → c < 2 → d < 2 → e < 2 → (c == d) ≡ false → (c == e) ≡ false → (d == e) ≡ false → ⊥
two_of_three zero zero e b1 b2 b3 cd ce de = false≢true (sym cd)
two_of_three zero (suc zero) zero b1 b2 b3 cd ce de = false≢true (sym ce)
two_of_three zero (suc zero) (suc zero) b1 b2 b3 cd ce de = false≢true (sym de)
two_of_three zero (suc zero) (suc (suc e)) b1 b2 b3 cd ce de = absurd (omega (arith, b3))
two_of_three zero (suc (suc d)) e b1 b2 b3 cd ce de = absurd (omega (arith, b2))
two_of_three (suc zero) zero zero b1 b2 b3 cd ce de = false≢true (sym de)
two_of_three (suc zero) zero (suc zero) b1 b2 b3 cd ce de = false≢true (sym ce)
two_of_three (suc zero) zero (suc (suc e)) b1 b2 b3 cd ce de = absurd (omega (arith, b3))
two_of_three (suc zero) (suc zero) e b1 b2 b3 cd ce de = false≢true (sym cd)
two_of_three (suc zero) (suc (suc d)) e b1 b2 b3 cd ce de = absurd (omega (arith, b2))
two_of_three (suc (suc c)) d e b1 b2 b3 cd ce de = absurd (omega (arith, b1))

-- of two clients of which neither waits for itself
module _ (graph : Graph) (first : graph 0 0 ≡ false) (second : graph 1 1 ≡ false) where
  not_alone : (c : ℕ) → c < 2 → IsTrue (graph c c) → ⊥
  not_alone zero below waits = false≢true (sym first ∙ waits)
  not_alone (suc zero) below waits = false≢true (sym second ∙ waits)
  not_alone (suc (suc c)) below waits = absurd (omega (arith, below))

  both : (c d : ℕ) → c < 2 → d < 2 → (c == d) ≡ false → (c ∷ d ∷ [] ≡ 0 ∷ 1 ∷ []) ⊎ (c ∷ d ∷ [] ≡ 1 ∷ 0 ∷ [])
  both zero zero b1 b2 apart = absurd (false≢true (sym apart))
  both zero (suc zero) b1 b2 apart = inl refl
  both zero (suc (suc d)) b1 b2 apart = absurd (omega (arith, b2))
  both (suc zero) zero b1 b2 apart = inr refl
  both (suc zero) (suc zero) b1 b2 apart = absurd (false≢true (sym apart))
  both (suc zero) (suc (suc d)) b1 b2 apart = absurd (omega (arith, b2))
  both (suc (suc c)) d b1 b2 apart = absurd (omega (arith, b1))

  -- a ring is both, the one or the other first
  pub ring_of_two : (ring : List ℕ) → IsRingOf 2 graph ring → (ring ≡ 0 ∷ 1 ∷ []) ⊎ (ring ≡ 1 ∷ 0 ∷ [])
  ring_of_two [] is = absurd is.ring
  ring_of_two (c ∷ []) is = absurd (not_alone c (below_first 2 c [] is.below) is.ring.0)
  ring_of_two (c ∷ d ∷ []) is =
      both c d (below_first 2 c (d ∷ []) is.below) (below_first 2 d [] (below_rest 2 c (d ∷ []) is.below))
      (head_apart c d [] is.distinct)
  ring_of_two (c ∷ d ∷ e ∷ rest) is =
      let later = below_rest 2 c (d ∷ e ∷ rest) is.below in
      let last = below_rest 2 d (e ∷ rest) later in
      absurd (two_of_three c d e (below_first 2 c (d ∷ e ∷ rest) is.below) (below_first 2 d (e ∷ rest) later)
      (below_first 2 e rest last) (head_apart c d (e ∷ rest) is.distinct) (second_apart c d e rest is.distinct)
      (head_apart d e rest (IsDistinct-tail (λ a b. a == b) c (d ∷ e ∷ rest) is.distinct)))

  -- where the first waits for nobody there is none
  module _ (idle : graph 0 1 ≡ false) where
    first_idle : (c : ℕ) → c < 2 → IsTrue (graph 0 c) → ⊥
    first_idle zero below waits = false≢true (sym first ∙ waits)
    first_idle (suc zero) below waits = false≢true (sym idle ∙ waits)
    first_idle (suc (suc c)) below waits = omega (arith, below)

    for_first : (c d : ℕ) → c < 2 → d < 2 → IsTrue (graph c d) → d ≡ 0
    for_first zero d b1 b2 waits = absurd (first_idle d b2 waits)
    for_first (suc zero) zero b1 b2 waits = refl
    for_first (suc zero) (suc zero) b1 b2 waits = absurd (false≢true (sym second ∙ waits))
    for_first (suc zero) (suc (suc d)) b1 b2 waits = absurd (omega (arith, b2))
    for_first (suc (suc c)) d b1 b2 waits = absurd (omega (arith, b1))

    pub none_of_two : (ring : List ℕ) → AreBelow 2 ring → IsRing graph ring → ⊥
    none_of_two [] below closed = closed
    none_of_two (c ∷ []) below closed = not_alone c (below_first 2 c [] below) closed.0
    none_of_two (c ∷ d ∷ rest) below closed =
        let later = below_rest 2 c (d ∷ rest) below in
        let here = below_first 2 c (d ∷ rest) below in
        let to_first = for_first c d here (below_first 2 d rest later) closed.0 in
        first_idle (first_or c rest) (next_below 2 c rest here (below_rest 2 d rest later))
        (subst (λ (x : ℕ). IsTrue (graph x (first_or c rest))) to_first closed.1.0)

nobody_rings : (ring : List ℕ) → IsRing nobody_waits ring → ⊥
nobody_rings [] closed = closed
nobody_rings (c ∷ rest) closed = false≢true closed.0

without_locks : HasRing 3 nobody_waits → ⊥
without_locks has = nobody_rings has.0 has.2

below_none : (n : ℕ) → AreBelow n []
below_none n c there = absurd (omega (arith, there.1))

below_one_more : (n c : ℕ) (rest : List ℕ) → c < n → AreBelow n rest → AreBelow n (c ∷ rest)
below_one_more n c rest first later d there = elim (contains_cases c d rest there) [
  | inl same ↦ subst (λ (x : ℕ). x < n) same first
  | inr further ↦ later d further
]

pub both_below : AreBelow 2 (0 ∷ 1 ∷ [])
both_below = below_one_more 2 0 (1 ∷ []) (omega arith) (below_one_more 2 1 [] (omega arith) (below_none 2))

two_below : AreBelow 3 (0 ∷ 1 ∷ [])
two_below = below_one_more 3 0 (1 ∷ []) (omega arith) (below_one_more 3 1 [] (omega arith) (below_none 3))

three_below : AreBelow 3 (0 ∷ 1 ∷ 2 ∷ [])
three_below =
    below_one_more 3 0 (1 ∷ 2 ∷ []) (omega arith)
    (below_one_more 3 1 (2 ∷ []) (omega arith) (below_one_more 3 2 [] (omega arith) (below_none 3)))

pub why_rings_are : WhyRingsAre
why_rings_are = record {
  longer = λ h. omega (arith, h.by_any without_locks (0 ∷ 1 ∷ []) two_below (refl, (refl, tt)));
  longer_by_locks = λ h.
      let locks = h.by_locks (0 ∷ 1 ∷ [], two_below, (refl, (refl, tt))) in
      omega (arith, locks.1 (0 ∷ 1 ∷ []) two_below (refl, (refl, tt)));
  in_queue = λ h.
      let locks = h.by_locks (0 ∷ 1 ∷ 2 ∷ [], three_below, (refl, (refl, (refl, tt)))) in
      false≢true locks.0.1.0;
  no_ring = λ h. false≢true h.ring_is.ring.0;
  beyond = λ h. omega (arith, h.ring_is.below 1 (contains_later 0 1 (1 ∷ []) (contains_first 1 1 [] refl)));
  nobody = λ h. h.ring_is.ring;
}
