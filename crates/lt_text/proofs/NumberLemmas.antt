-- Numbers that digits write, and the digits of a number.
use Rattle.std.proofs.Common.{◌≡◌, ℕ, zero, suc, ◌+◌, ◌-◌, ◌*◌, ◌^◌, ◌<◌, ◌≤◌, ◌&&◌, Bool, true, false, nat_lt, nat_le, ◌==◌, ◌≢◌, List, [], ◌∷◌, length, take, get_or, Some, refl, sym, arith, decimal, lt-ltb, le-leb, leb-true, eq-eqb, ne_eqb}
use Rattle.std.specs.Char.{is_ascii_digit}
use Rattle.std.specs.Str.Parse.{digits_value}
use Rattle.std.proofs.lemmas.Bool.{and_parts}
use Rattle.std.proofs.lemmas.Fmt.{digits_decimal, digits_value-decimal, decimal-digits_value, length-decimal-le, decimal_nonempty, first_decimal, decimal_digit}
use Rattle.std.proofs.lemmas.Int.Digits.{digits_value_more}
use Rattle.std.proofs.lemmas.Str.{digit_value_digit}
use Rattle.std.proofs.lemmas.Str.Parse.{IsDigitsTest, IsNumeralModel, numerals_by_value, digits_value_short, digits_value-take-le, digit_at}
use Rattle.lt_text.specs.Number.{are_digits, has_leading_zero, number, exact_number}

digits_test : IsDigitsTest (λ ds. are_digits ds ≡ true)
digits_test = record {
  empty = refl;
  parts = λ c cs e. let k = and_parts (is_ascii_digit c) (are_digits cs) e in let m = and_parts (nat_le 48 c) (nat_le c 57) k.0 in ((leb-true 48 c m.0, leb-true c 57 m.1), k.1);
  more = λ c cs k e. rw (le-leb 48 c k.0, le-leb c 57 k.1, e);
}

own : IsNumeralModel (λ ds. are_digits ds ≡ true) (digits_value 10)
own = numerals_by_value _ digits_test

-- the digits up to and with the next one write ten times what those before it write, and that digit
pub record NextDigit (word : List ℕ) (i most : ℕ) : Type 0 where
  pub more : digits_value 10 (take (i + 1) word) ≡ digits_value 10 (take i word) * 10 + (get_or word i 0 - 48)
  pub small : digits_value 10 (take (i + 1) word) < 10 ^ most

pub next_digit : (word : List ℕ) (i most : ℕ) → are_digits word ≡ true → length word ≤ most → i < length word → NextDigit word i most
next_digit word i most digits few inside =
    let digit = digit_at word i (own.to word digits) inside in
    record {
      more = omega (arith, digits_value_more 10 word i inside, digit_value_digit (get_or word i 0) digit);
      small = omega (arith, digits_value-take-le 10 word (i + 1) (omega arith), digits_value_short own word most digits few);
    }

pub few_digits : (word : List ℕ) (most : ℕ) → are_digits word ≡ true → length word ≤ most → digits_value 10 word < 10 ^ most
few_digits word most digits few = digits_value_short own word most digits few

pub decimal_are_digits : (n : ℕ) → n < 2 ^ 64 → are_digits (decimal n) ≡ true
decimal_are_digits n fits = digits_decimal own n fits

pub number_decimal : (n : ℕ) → n < 10 ^ 9 → number (decimal n) ≡ Some n
number_decimal n small =
    let fits : n < 2 ^ 64 = omega arith in
    rw (
      lt-ltb 0 (length (decimal n)) (decimal_nonempty n fits),
      le-leb (length (decimal n)) 9 (length-decimal-le 9 n (omega arith) small fits),
      digits_decimal own n fits,
      digits_value-decimal own n fits,
    )

pub no_leading_zero : (n : ℕ) → n < 2 ^ 64 → has_leading_zero (decimal n) ≡ false
no_leading_zero zero fits = rw (decimal_digit 0 (omega arith))
no_leading_zero (suc n) fits =
    let first : get_or (decimal (suc n)) 0 0 ≢ 48 = let h = first_decimal (suc n) (omega arith) fits in λ e. omega arith in
    rw (ne_eqb (get_or (decimal (suc n)) 0 0) 48 first) (and_false (nat_lt 1 (length (decimal (suc n)))))
  where
    and_false : (b : Bool) → (b && false) ≡ false
    and_false true = refl
    and_false false = refl

pub exact_number_decimal : (n : ℕ) → n < 2 ^ 64 → exact_number (decimal n) ≡ Some n
exact_number_decimal n fits =
    rw (
      lt-ltb 0 (length (decimal n)) (decimal_nonempty n fits),
      le-leb (length (decimal n)) 20 (length-decimal-le 20 n (omega arith) (omega arith) fits),
      digits_decimal own n fits,
      no_leading_zero n fits,
      digits_value-decimal own n fits,
      lt-ltb n (2 ^ 64) fits,
    )

-- digits without a leading zero are those of the number that they write
pub decimal_value : (word : List ℕ) → (length word == 0) ≡ false → length word ≤ 20 → are_digits word ≡ true → has_leading_zero word ≡ false → digits_value 10 word < 2 ^ 64 → word ≡ decimal (digits_value 10 word)
decimal_value word some few digits none small =
    sym (decimal-digits_value own word digits (filled word some) (leading word none) small)
  where
    filled : (word : List ℕ) → (length word == 0) ≡ false → 0 < length word
    filled [] e = absurd (cc)
    filled (x ∷ word) e = omega arith

    leading : (word : List ℕ) → has_leading_zero word ≡ false → get_or word 0 0 ≡ 48 → length word ≡ 1
    leading [] none e = absurd (omega arith)
    leading (x ∷ []) none e = refl
    leading (x ∷ y ∷ word) none e =
        let several : nat_lt 1 (length (x ∷ y ∷ word)) ≡ true = lt-ltb 1 (length (x ∷ y ∷ word)) (omega arith) in
        absurd (let h = rw (several, eq-eqb x 48 e) at none in cc)
