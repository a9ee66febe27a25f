-- A number of one to four digits, written digit by digit behind a space.
use Rattle.std.proofs.Common.{◌≡◌, ◌∙◌, ℕ, ◌+◌, ◌<◌, ◌≤◌, ◌/◌, ◌%◌, List, [], ◌∷◌, ◌++◌, ap, sym, arith, zero, suc, ◌-◌, ◌^◌, ◌==◌, ◌||◌, not, Bool, true, false, length, map, get_or, refl, append_assoc, take, drop, Option, Some, None, position, inl, inr, decimal, flat_map, ne_eqb, lt-ltb}
use Rattle.std.proofs.lemmas.Fmt.{decimal_digit, decimal_step, decimal_by_steps}
use Rattle.std.specs.List.{AllByRecursion}
use Rattle.std.proofs.lemmas.Bool.{and_parts, cases_Bool}
use Rattle.lt_text.specs.Text.{after_space, lines, fields, is_line_end, is_space, without_return, HasNone, spaced, cut_at}
use Rattle.lt_text.proofs.TextLemmas.{cut_piece, fields_spaced, found_at, none_found, lines_found, lines_last}
use Rattle.lt_journal.specs.RunLines.{line}
use Rattle.lt_journal.proofs.Fitting.{is_plain_byte, is_plain}
use Rattle.lt_journal.specs.Split.{after_first_line}

-- behind the text there stands the number
written : (old : List ℕ) (n : ℕ) (digits : List ℕ) → decimal n ≡ digits → old ++ 32 ∷ digits ≡ old ++ after_space (decimal n)
written old n digits e = ap (λ (ds : List ℕ). old ++ 32 ∷ ds) (sym e)

-- a last digit more
more : (n : ℕ) (digits : List ℕ) → 10 ≤ n → n < 10000 → decimal (n / 10) ≡ digits → decimal n ≡ digits ++ (48 + n % 10) ∷ []
more n digits many few e = decimal_step n many (omega (arith, few)) ∙ ap (λ (ds : List ℕ). ds ++ (48 + n % 10) ∷ []) e

two : (n : ℕ) → 10 ≤ n → n < 100 → decimal n ≡ (48 + n / 10) ∷ (48 + n % 10) ∷ []
two n many few = more n _ many (omega (arith, few)) (decimal_digit (n / 10) (omega (arith, few)))

three : (n : ℕ) → 100 ≤ n → n < 1000 → decimal n ≡ (48 + n / 10 / 10) ∷ (48 + n / 10 % 10) ∷ (48 + n % 10) ∷ []
three n many few =
    more n _ (omega (arith, many)) (omega (arith, few)) (two (n / 10) (omega (arith, many)) (omega (arith, few)))

four : (n : ℕ) → 1000 ≤ n → n < 10000
    → decimal n ≡ (48 + n / 10 / 10 / 10) ∷ (48 + n / 10 / 10 % 10) ∷ (48 + n / 10 % 10) ∷ (48 + n % 10) ∷ []
four n many few =
    more n _ (omega (arith, many)) few (three (n / 10) (omega (arith, many)) (omega (arith, few)))

pub one_digit : (old : List ℕ) (n : ℕ) → n < 10 → old ++ 32 ∷ (48 + n) ∷ [] ≡ old ++ after_space (decimal n)
one_digit old n few = written old n _ (decimal_digit n few)

pub two_digits : (old : List ℕ) (n : ℕ) → 10 ≤ n → n < 100 → old ++ 32 ∷ (48 + n / 10) ∷ (48 + n % 10) ∷ [] ≡ old ++ after_space (decimal n)
two_digits old n many few = written old n _ (two n many few)

pub three_digits : (old : List ℕ) (n : ℕ) → 100 ≤ n → n < 1000
    → old ++ 32 ∷ (48 + n / 10 / 10) ∷ (48 + n / 10 % 10) ∷ (48 + n % 10) ∷ [] ≡ old ++ after_space (decimal n)
three_digits old n many few = written old n _ (three n many few)

pub four_digits : (old : List ℕ) (n : ℕ) → 1000 ≤ n → n < 10000
    → old ++ 32 ∷ (48 + n / 10 / 10 / 10) ∷ (48 + n / 10 / 10 % 10) ∷ (48 + n / 10 % 10) ∷ (48 + n % 10) ∷ []
    ≡ old ++ after_space (decimal n)
four_digits old n many few = written old n _ (four n many few)

-- Plain words: they have no byte that parts words or lines, and so a line of them is read as these words.

abbrev is_return : ℕ → Bool
is_return byte = byte == 13

-- no byte of the word parts words or ends a line
pub record IsPlain (word : List ℕ) : Type 0 where
  pub no_space : HasNone is_space word
  pub no_line_end : HasNone is_line_end word
  pub no_return : HasNone is_return word

abbrev pub ArePlain : List (List ℕ) → Type 0
ArePlain words = AllByRecursion IsPlain words

none_of_three : (a b c : Bool) → not (a || b || c) ≡ true → (a ≡ false) × (b ≡ false) × (c ≡ false)
none_of_three true b c e = absurd (cc)
none_of_three false true c e = absurd (cc)
none_of_three false false true e = absurd (cc)
none_of_three false false false e = (refl, refl, refl)

pub plain : (word : List ℕ) → is_plain word ≡ true → IsPlain word
plain [] e = record { no_space = tt; no_line_end = tt; no_return = tt }
plain (byte ∷ word) e =
    let parts = and_parts (is_plain_byte byte) (is_plain word) e in
    let here = none_of_three (byte == 32) (byte == 10) (byte == 13) parts.0 in
    let later = plain word parts.1 in
    record { no_space = (here.0, later.no_space); no_line_end = (here.1, later.no_line_end); no_return = (here.2, later.no_return) }

plain_append : (front back : List ℕ) → is_plain front ≡ true → is_plain back ≡ true → is_plain (front ++ back) ≡ true
plain_append [] back e f = f
plain_append (byte ∷ front) back e f =
    let parts = and_parts (is_plain_byte byte) (is_plain front) e in
    rw (parts.0, plain_append front back parts.1 f)

plain_digit : (n : ℕ) → n < 10 → is_plain ((48 + n) ∷ []) ≡ true
plain_digit n small =
    rw (ne_eqb (48 + n) 32 (λ e. omega (arith, e)), ne_eqb (48 + n) 10 (λ e. omega (arith, e)), ne_eqb (48 + n) 13 (λ e. omega (arith, e)))

pub plain_decimal : (n : ℕ) → n < 2 ^ 64 → IsPlain (decimal n)
plain_decimal n fits = plain (decimal n)
    (decimal_by_steps (λ k digits. is_plain digits ≡ true) plain_digit
    (λ k digits large e. plain_append digits ((48 + k % 10) ∷ []) e (plain_digit (k % 10) (omega arith))) n fits)

none_append : (ends : ℕ → Bool) (front back : List ℕ) → HasNone ends front → HasNone ends back → HasNone ends (front ++ back)
none_append ends [] back f b = b
none_append ends (byte ∷ front) back f b = (f.0, none_append ends front back f.1 b)

none_in_later : (ends : ℕ → Bool) (words : List (List ℕ)) → ends 32 ≡ false → AllByRecursion (HasNone ends) words → HasNone ends (flat_map after_space words)
none_in_later ends [] e none = tt
none_in_later ends (word ∷ words) e none =
    (e, none_append ends word (flat_map after_space words) none.0 (none_in_later ends words e none.1))

none_in_line : (ends : ℕ → Bool) (words : List (List ℕ)) → ends 32 ≡ false → AllByRecursion (HasNone ends) words → HasNone ends (spaced words)
none_in_line ends [] e none = tt
none_in_line ends (word ∷ words) e none =
    none_append ends word (flat_map after_space words) none.0 (none_in_later ends words e none.1)

no_line_ends : (words : List (List ℕ)) → ArePlain words → AllByRecursion (HasNone is_line_end) words
no_line_ends [] all = tt
no_line_ends (word ∷ words) all = (all.0.no_line_end, no_line_ends words all.1)

no_returns : (words : List (List ℕ)) → ArePlain words → AllByRecursion (HasNone is_return) words
no_returns [] all = tt
no_returns (word ∷ words) all = (all.0.no_return, no_returns words all.1)

no_spaces : (words : List (List ℕ)) → ArePlain words → AllByRecursion (HasNone is_space) words
no_spaces [] all = tt
no_spaces (word ∷ words) all = (all.0.no_space, no_spaces words all.1)

none_at : (ends : ℕ → Bool) (bytes : List ℕ) (k : ℕ) → HasNone ends bytes → k < length bytes → ends (get_or bytes k 0) ≡ false
none_at ends [] k none inside = absurd (omega (arith, inside))
none_at ends (byte ∷ bytes) zero none inside = none.0
none_at ends (byte ∷ bytes) (suc k) none inside = none_at ends bytes k none.1 (omega (arith, inside))

stays_whole : (bytes : List ℕ) → HasNone is_return bytes → without_return bytes ≡ bytes
stays_whole [] none = refl
stays_whole (byte ∷ bytes) none =
    let last = none_at is_return (byte ∷ bytes) (length (byte ∷ bytes) - 1) none (omega arith) in
    rw (lt-ltb 0 (length (byte ∷ bytes)) (omega arith), last)

-- the first line of a text that begins with a line of plain words
pub lines_line : (words : List (List ℕ)) (rest : List ℕ) → ArePlain words → lines (line words ++ rest) ≡ spaced words ∷ lines rest
unfolding lines
lines_line words rest all =
    let none = none_in_line is_line_end words refl (no_line_ends words all) in
    let whole = stays_whole (spaced words) (none_in_line is_return words refl (no_returns words all)) in
    ap lines (append_assoc (spaced words) (10 ∷ []) rest)
    ∙ (ap (map without_return) (cut_piece is_line_end (spaced words) 10 rest none refl)
    ∙ ap (λ (first : List ℕ). first ∷ lines rest) whole)

-- the fields of a line of plain words
pub fields_line : (first : List ℕ) (later : List (List ℕ)) → ArePlain (first ∷ later) → fields (spaced (first ∷ later)) ≡ first ∷ later
fields_line first later all = fields_spaced first later all.0.no_space (no_spaces later all.1)

-- What stands after the first line.

after_front : (front : List ℕ) (byte : ℕ) (rest : List ℕ) → HasNone is_line_end front → is_line_end byte ≡ true → after_first_line (front ++ byte ∷ rest) ≡ rest
unfolding after_first_line
after_front [] byte rest none e = rw e
after_front (x ∷ front) byte rest none e =
    let here : is_line_end x ≡ false = none.0 in
    rw here (after_front front byte rest none.1 e)

after_all : (bytes : List ℕ) → HasNone is_line_end bytes → after_first_line bytes ≡ []
unfolding after_first_line
after_all [] none = refl
after_all (x ∷ bytes) none =
    let here : is_line_end x ≡ false = none.0 in
    rw here (after_all bytes none.1)

pub after_line-found : (bytes : List ℕ) (k : ℕ) → position is_line_end bytes ≡ Some k → after_first_line bytes ≡ drop (k + 1) bytes
after_line-found bytes k e =
    let found = found_at is_line_end bytes k e in
    ap after_first_line found.parts ∙ after_front (take k bytes) found.byte (drop (k + 1) bytes) found.none_earlier found.ends_piece

pub after_line-none : (bytes : List ℕ) → position is_line_end bytes ≡ None → after_first_line bytes ≡ []
after_line-none bytes e = after_all bytes (none_found is_line_end bytes e)

after_line_within : (bytes : List ℕ) → length (after_first_line bytes) ≤ length bytes
unfolding after_first_line
after_line_within [] = omega arith
after_line_within (x ∷ bytes) = elim (cases_Bool (is_line_end x)) [
  | inl here ↦ rw here (omega arith)
  | inr other ↦ rw other (omega (arith, after_line_within bytes))
]

after_line_less : (x : ℕ) (bytes : List ℕ) → length (after_first_line (x ∷ bytes)) < length (x ∷ bytes)
unfolding after_first_line
after_line_less x bytes = elim (cases_Bool (is_line_end x)) [
  | inl here ↦ rw here (omega arith)
  | inr other ↦ rw other (omega (arith, after_line_within bytes))
]

no_lines : lines [] ≡ []
unfolding lines cut_at
no_lines = refl

-- the lines after the first are those of what stands after it, and that is less
pub record FirstLine (bytes : List ℕ) (line : List ℕ) (later : List (List ℕ)) : Type 0 where
  pub others : lines (after_first_line bytes) ≡ later
  pub shorter : length (after_first_line bytes) < length bytes

pub first_line : (bytes line : List ℕ) (later : List (List ℕ)) → lines bytes ≡ line ∷ later → FirstLine bytes line later
first_line [] line later e = absurd (let f = no_lines in cc)
first_line (x ∷ bytes) line later e = record { others = others; shorter = after_line_less x bytes }
  where
    at : (o : Option ℕ) → position is_line_end (x ∷ bytes) ≡ o → lines (after_first_line (x ∷ bytes)) ≡ later
    at (Some k) found =
        let cut = lines_found (x ∷ bytes) k found in
        ap lines (after_line-found (x ∷ bytes) k found) ∙ (let same : lines (drop (k + 1) (x ∷ bytes)) ≡ later = cc in same)
    at None none =
        let cut = lines_last (x ∷ bytes) (ne_eqb (length (x ∷ bytes)) 0 (λ e. omega (arith, e))) none in
        ap lines (after_line-none (x ∷ bytes) none) ∙ (no_lines ∙ (let same : [] ≡ later = cc in same))

    others : lines (after_first_line (x ∷ bytes)) ≡ later
    others = at (position is_line_end (x ∷ bytes)) refl
