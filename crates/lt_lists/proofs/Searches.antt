-- What a search below a bound finds.
use Rattle.std.proofs.Common.{◌≡◌, ◌≢◌, Bool, true, false, ℕ, zero, suc, ◌<◌, ◌+◌, Option, Some, None, inl, inr, refl, subst, sym, ap, ◌∙◌, arith, ◌||◌, if◌then◌else◌}
use Rattle.std.proofs.lemmas.Bool.{cases_eq, cases_lt, or_left, or_right, false≢true}
use Rattle.lt_lists.specs.Below.{any_below, count_below, first_below, earlier}

pub any_below_at : (n k : ℕ) (test : ℕ → Bool) → k < n → test k ≡ true → any_below n test ≡ true
any_below_at zero k test h e = absurd (omega arith)
any_below_at (suc n) k test h e =
    elim (cases_lt k n) [
      | inl below ↦ or_left (any_below n test) (test n) (any_below_at n k test below e)
      | inr above ↦
          let same : k ≡ n = omega arith in
          or_right (any_below n test) (test n) (subst (λ (i : ℕ). test i ≡ true) same e)
    ]

-- where none passes, none is counted
pub any_below_none : (n : ℕ) (test : ℕ → Bool) → any_below n test ≡ false → (k : ℕ) → k < n → test k ≡ false
any_below_none n test none k below = by_test (test k) refl
  where
    by_test : (t : Bool) → test k ≡ t → t ≡ false
    by_test false e = refl
    by_test true e = absurd (false≢true (sym none ∙ any_below_at n k test below e))

pub any_below_same : (n : ℕ) (test other : ℕ → Bool) → ((k : ℕ) → k < n → test k ≡ other k) → any_below n test ≡ any_below n other
any_below_same zero test other same = refl
any_below_same (suc n) test other same = λ i. any_below_same n test other (λ k below. same k (omega (arith, below))) i || same n (omega arith) i

pub none_counted : (n : ℕ) (test : ℕ → Bool) → count_below n test ≡ 0 → any_below n test ≡ false
none_counted zero test e = refl
none_counted (suc n) test e =
    elim (test n) as (λ t. count_below n test + (if t then 1 else 0) ≡ 0 → any_below n test || t ≡ false) [
      | true ↦ λ e. absurd (omega arith)
      | false ↦ λ e. rw (none_counted n test (omega arith)) refl
    ] e

-- tests that agree count as many
pub same_count : (n : ℕ) (test other : ℕ → Bool) → ((k : ℕ) → k < n → test k ≡ other k) → count_below n test ≡ count_below n other
same_count zero test other h = refl
same_count (suc n) test other h =
    let here : test n ≡ other n = h n (omega arith) in
    rw here (ap (λ (c : ℕ). c + (if other n then 1 else 0)) (same_count n test other (λ k inside. h k (omega arith))))

-- a test that fails at one number more counts one less
pub one_less : (n first : ℕ) (test other : ℕ → Bool) → first < n → test first ≡ true → other first ≡ false
    → ((k : ℕ) → k < n → k ≢ first → test k ≡ other k) → count_below n test ≡ count_below n other + 1
one_less zero first test other inside holds fails h = absurd (omega arith)
one_less (suc n) first test other inside holds fails h =
    elim (cases_eq n first) [
      | inl same ↦
          let rest : count_below n test ≡ count_below n other = same_count n test other (λ k below. h k (omega arith) (λ e. omega arith)) in
          let passes : test n ≡ true = subst (λ (i : ℕ). test i ≡ true) (sym same) holds in
          let gone : other n ≡ false = subst (λ (i : ℕ). other i ≡ false) (sym same) fails in
          rw (passes, gone) (omega arith)
      | inr apart ↦
          let rest : count_below n test ≡ count_below n other + 1 = one_less n first test other (omega arith) holds fails (λ k below d. h k (omega arith) d) in
          let here : test n ≡ other n = h n (omega arith) apart in
          rw here (omega arith)
    ]

-- an order in which each two numbers stand one before the other
pub record IsStrictOrder (before : ℕ → ℕ → Bool) : Type 0 where
  pub never : (a : ℕ) → before a a ≡ false
  pub through : (a b c : ℕ) → before a b ≡ true → before b c ≡ true → before a c ≡ true
  pub either : (a b : ℕ) → a ≢ b → before a b ≡ false → before b a ≡ true

-- the number passes, below n, and stands before each other that passes
pub record IsFirst (n : ℕ) (test : ℕ → Bool) (before : ℕ → ℕ → Bool) (first : ℕ) : Type 0 where
  pub inside : first < n
  pub passes : test first ≡ true
  pub leads : (k : ℕ) → k < n → test k ≡ true → k ≢ first → before first k ≡ true

-- what a search gave
abbrev pub Found : ℕ → (ℕ → Bool) → (ℕ → ℕ → Bool) → Option ℕ → Type 0
Found n test before None = count_below n test ≡ 0
Found n test before (Some first) = IsFirst n test before first

-- one number more, which passes
found_here : (n : ℕ) (test : ℕ → Bool) (before : ℕ → ℕ → Bool) (o : Option ℕ) → IsStrictOrder before → test n ≡ true
    → Found n test before o → Found (suc n) test before (earlier before o n)
found_here n test before None order holds found = record {
  inside = omega arith;
  passes = holds;
  leads = λ k inside passes apart.
      absurd (false≢true (sym (none_passes n k test found (omega arith)) ∙ passes));
}
  where
    none_passes : (n k : ℕ) (test : ℕ → Bool) → count_below n test ≡ 0 → k < n → test k ≡ false
    none_passes n k test e inside =
        elim (test k) as (λ t. test k ≡ t → t ≡ false) [
          | true ↦ λ e'. absurd (false≢true (sym (none_counted n test e) ∙ any_below_at n k test inside e'))
          | false ↦ λ e'. refl
        ] refl
found_here n test before (Some best) order holds found =
    elim (before n best) as (λ t. before n best ≡ t → Found (suc n) test before (if t then Some n else Some best)) [
      | true ↦ λ e. record {
        inside = omega arith;
        passes = holds;
        leads = λ k inside passes apart.
            elim (cases_eq k best) [
              | inl same ↦ subst (λ (i : ℕ). before n i ≡ true) (sym same) e
              | inr other ↦ order.through n best k e (found.leads k (omega arith) passes other)
            ];
      }
      | false ↦ λ e. record {
        inside = omega (arith, found.inside);
        passes = found.passes;
        leads = λ k inside passes apart.
            elim (cases_eq k n) [
              | inl same ↦ subst (λ (i : ℕ). before best i ≡ true) (sym same) (order.either n best (λ e. omega (arith, found.inside)) e)
              | inr other ↦ found.leads k (omega arith) passes apart
            ];
      }
    ] refl

-- one number more, which doesn't pass
found_on : (n : ℕ) (test : ℕ → Bool) (before : ℕ → ℕ → Bool) (o : Option ℕ) → test n ≡ false
    → Found n test before o → Found (suc n) test before o
found_on n test before None fails found = rw fails (omega arith)
found_on n test before (Some best) fails found = record {
  inside = omega (arith, found.inside);
  passes = found.passes;
  leads = λ k inside passes apart.
      elim (cases_eq k n) [
        | inl same ↦ absurd (false≢true (sym fails ∙ subst (λ (i : ℕ). test i ≡ true) same passes))
        | inr other ↦ found.leads k (omega arith) passes apart
      ];
}

-- a search finds the first of those that pass, and none only where none passes
pub found : (n : ℕ) (test : ℕ → Bool) (before : ℕ → ℕ → Bool) → IsStrictOrder before → Found n test before (first_below n test before)
found zero test before order = refl
found (suc n) test before order =
    elim (test n) as (λ t. test n ≡ t → Found (suc n) test before (if t then earlier before (first_below n test before) n else first_below n test before)) [
      | true ↦ λ holds. found_here n test before (first_below n test before) order holds (found n test before order)
      | false ↦ λ fails. found_on n test before (first_below n test before) fails (found n test before order)
    ] refl
