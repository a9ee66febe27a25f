-- The digits of a number below 100, by the tables of them, and those of a number of three or four digits, two by two.
use Rattle.std.proofs.Common.{◌≡◌, ℕ, zero, suc, ◌+◌, ◌-◌, ◌/◌, ◌%◌, ◌<◌, ◌≤◌, Bool, true, ◌&&◌, T, eqb, List, [], ◌∷◌, ◌++◌, get_or, inl, inr, arith, eq-zero-or-pos, eqb→eq, decimal}
use lib.Ieee.Fits.{and_l, and_r}
use Rattle.lt_text.specs.Text.{after_space}
use Rattle.lt_journal.specs.declared.page.TheConstants.{TENS, ONES}
use Rattle.lt_journal.proofs.Plain.{three_digits, four_digits}

abbrev ten_is : ℕ → Bool
ten_is p = eqb (get_or TENS p 0) (48 + p / 10)

abbrev one_is : ℕ → Bool
one_is p = eqb (get_or ONES p 0) (48 + p % 10)

abbrev are_digits : ℕ → Bool
are_digits zero = true
are_digits (suc p) = (ten_is p && one_is p) && are_digits p

below : (n p : ℕ) → T (are_digits n) → p < n → (get_or TENS p 0 ≡ 48 + p / 10) × (get_or ONES p 0 ≡ 48 + p % 10)
below zero p t h = absurd (omega arith)
below (suc n) p t h =
    elim (eq-zero-or-pos (n - p)) [
      | inl z ↦
          let e : p ≡ n = omega arith in
          let here : T (ten_is n && one_is n) = and_l (ten_is n && one_is n) (are_digits n) t in
          let ten : T (eqb (get_or TENS n 0) (48 + n / 10)) = and_l (ten_is n) (one_is n) here in
          let one : T (eqb (get_or ONES n 0) (48 + n % 10)) = and_r (ten_is n) (one_is n) here in
          rw e (eqb→eq (get_or TENS n 0) (48 + n / 10) ten, eqb→eq (get_or ONES n 0) (48 + n % 10) one)
      | inr g ↦ below n p (and_r (ten_is n && one_is n) (are_digits n) t) (omega arith)
    ]

pub ten_at : (p : ℕ) → p < 100 → get_or TENS p 0 ≡ 48 + p / 10
ten_at p h = (below 100 p tt h).0

pub one_at : (p : ℕ) → p < 100 → get_or ONES p 0 ≡ 48 + p % 10
one_at p h = (below 100 p tt h).1

pub three_digits_by_two : (old : List ℕ) (n : ℕ) → 100 ≤ n → n < 1000
    → old ++ 32 ∷ (48 + n / 100) ∷ (48 + n % 100 / 10) ∷ (48 + n % 100 % 10) ∷ [] ≡ old ++ after_space (decimal n)
three_digits_by_two old n many few =
    let a : n / 100 ≡ n / 10 / 10 = omega arith in
    let b : n % 100 / 10 ≡ n / 10 % 10 = omega arith in
    let c : n % 100 % 10 ≡ n % 10 = omega arith in
    rw (a, b, c) (three_digits old n many few)

pub four_digits_by_two : (old : List ℕ) (n : ℕ) → 1000 ≤ n → n < 10000
    → old ++ 32 ∷ (48 + n / 100 / 10) ∷ (48 + n / 100 % 10) ∷ (48 + n % 100 / 10) ∷ (48 + n % 100 % 10) ∷ [] ≡ old ++ after_space (decimal n)
four_digits_by_two old n many few =
    let a : n / 100 ≡ n / 10 / 10 = omega arith in
    let b : n % 100 / 10 ≡ n / 10 % 10 = omega arith in
    let c : n % 100 % 10 ≡ n % 10 = omega arith in
    rw (a, b, c) (four_digits old n many few)
