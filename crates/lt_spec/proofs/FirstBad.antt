-- The client that is told is the first one that doesn't ask in order.
use Rattle.std.proofs.Common.{◌≡◌, ℕ, zero, suc, ◌+◌, ◌<◌, ◌≤◌, inl, inr, length, Some, None, Bool, true, false, refl, sym, ap, arith, ◌∙◌, not, if◌then◌else◌, find}
use Rattle.std.specs.List.{range_with_len}
use Rattle.std.proofs.lemmas.Bool.{cases_eq}
use Rattle.lt_spec.specs.Ordered.{is_orderly, FirstBadIsExact}

not_false : (b : Bool) → not b ≡ false → b ≡ true
not_false true e = refl
not_false false e = cc

not_true : (b : Bool) → not b ≡ true → b ≡ false
not_true true e = cc
not_true false e = refl

-- a search among n numbers from a on
none_passes : (test : ℕ → Bool) (a n : ℕ) → find test (range_with_len a n) ≡ None → (i : ℕ) → a ≤ i → i < a + n → test i ≡ false
none_passes test a zero e i from to = absurd (omega (arith, from, to))
none_passes test a (suc n) e i from to = by_test (test a) refl e (λ f more. none_passes test (a + 1) n f i more (omega (arith, to)))
  where
    by_test : (t : Bool) → test a ≡ t → (if t then Some a else find test (range_with_len (a + 1) n)) ≡ None
        → (find test (range_with_len (a + 1) n) ≡ None → a + 1 ≤ i → test i ≡ false) → test i ≡ false
    by_test true h f again = cc
    by_test false h f again = elim (cases_eq i a) [
      | inl same ↦ ap test same ∙ h
      | inr other ↦ again f (omega (arith, from, other))
    ]

all_fail : (test : ℕ → Bool) (a n : ℕ) → ((i : ℕ) → a ≤ i → i < a + n → test i ≡ false) → find test (range_with_len a n) ≡ None
all_fail test a zero fails = refl
all_fail test a (suc n) fails = by_test (test a) (fails a (omega arith) (omega arith)) (all_fail test (a + 1) n (λ i from to. fails i (omega (arith, from)) (omega (arith, to))))
  where
    by_test : (t : Bool) → t ≡ false → find test (range_with_len (a + 1) n) ≡ None → (if t then Some a else find test (range_with_len (a + 1) n)) ≡ None
    by_test true e again = cc
    by_test false e again = again

record Finds (test : ℕ → Bool) (a n k : ℕ) : Type 0 where
  within : k < a + n
  from : a ≤ k
  passes : test k ≡ true
  before : (i : ℕ) → a ≤ i → i < k → test i ≡ false

finds : (test : ℕ → Bool) (a n k : ℕ) → find test (range_with_len a n) ≡ Some k → Finds test a n k
finds test a zero k e = cc
finds test a (suc n) k e = by_test (test a) refl e (λ f. finds test (a + 1) n k f)
  where
    by_test : (t : Bool) → test a ≡ t → (if t then Some a else find test (range_with_len (a + 1) n)) ≡ Some k → (find test (range_with_len (a + 1) n) ≡ Some k → Finds test (a + 1) n k) → Finds test a (suc n) k
    by_test true h f again =
        let same : a ≡ k = cc in
        record { within = omega (arith, same); from = omega (arith, same); passes = ap test (sym same) ∙ h; before = λ i low high. absurd (omega (arith, low, high, same)) }
    by_test false h f again =
        let later = again f in
        record {
          within = omega (arith, later.within);
          from = omega (arith, later.from);
          passes = later.passes;
          before = λ i low high. elim (cases_eq i a) [
            | inl same ↦ ap test same ∙ h
            | inr other ↦ later.before i (omega (arith, low, other)) high
          ];
        }

pub first_bad_is_exact : FirstBadIsExact
first_bad_is_exact script = (
  (
    λ e client known. not_false (is_orderly script client) (none_passes bad 0 n e client (omega arith) (omega (arith, known))),
    λ ordered. all_fail bad 0 n (λ i low high. ap not (ordered i (omega (arith, high)))),
  ),
  λ client e. let found = finds bad 0 n client e in (
    omega (arith, found.within),
    not_true (is_orderly script client) found.passes,
    λ earlier before. not_false (is_orderly script earlier) (found.before earlier (omega arith) before),
  ),
)
  where
    n : ℕ
    n = length script.clients

    bad : ℕ → Bool
    bad client = not (is_orderly script client)
