-- The line of a move that bytes begin with.
use Rattle.std.proofs.Common.{◌≡◌, ◌≢◌, ◌∙◌, ℕ, zero, suc, ◌+◌, ◌-◌, ◌*◌, ◌/◌, ◌%◌, ◌<◌, ◌≤◌, ◌^◌, ◌&&◌, nat_lt, nat_le, Bool, true, false, List, [], ◌∷◌, ◌++◌, length, take, drop, get_or, Some, position, refl, sym, ap, arith, decimal, flat_map, append_assoc, append-nil, length-take-le, leb-true, ne_eqb, eqb-true}
use Rattle.std.specs.Char.{is_ascii_digit}
use Rattle.std.proofs.Math.Seq.{split_at}
use Rattle.std.proofs.lemmas.Bool.{and_parts}
use Rattle.std.proofs.lemmas.Fmt.{decimal_digit, decimal_step}
use Rattle.std.proofs.lemmas.List.{take_more}
use Rattle.std.proofs.lemmas.Int.Digits.{digits_value_more}
use Rattle.std.proofs.lemmas.Str.{digit_value_digit}
use Rattle.lt_modes.specs.declared.moves.Step.{Step}
use Rattle.lt_modes.specs.declared.moves.Step.TheVariants.{Act, Take}
use Rattle.lt_modes.specs.Script.{ScriptData, client_name}
use Rattle.lt_spec.specs.Script.{client_number}
use Rattle.lt_text.specs.Text.{after_space, spaced, is_line_end}
use Rattle.lt_text.specs.Number.{are_digits, has_leading_zero}
use Rattle.lt_text.proofs.TextLemmas.{found_at}
use Rattle.lt_text.proofs.NumberLemmas.{few_digits, decimal_value}
use Rattle.lt_journal.specs.declared.line.Line.TheVariants.{Move as MoveLine}
use Rattle.lt_journal.specs.Grammar.{AreFirstDigits}
use Rattle.lt_journal.specs.RunLines.{step_words}
use Rattle.lt_journal.proofs.Written.{client_found}
use Rattle.lt_law_journals.specs.Checking.{written}

-- What a number's digits are, one by one.

digits_push : (front : List ℕ) (byte : ℕ) → are_digits front ≡ true → is_ascii_digit byte ≡ true → are_digits (front ++ byte ∷ []) ≡ true
digits_push [] byte digits digit = rw digit refl
digits_push (x ∷ front) byte digits digit =
    let parts = and_parts (is_ascii_digit x) (are_digits front) digits in
    rw (parts.0, digits_push front byte parts.1 digit) refl

pub no_digits : (bytes : List ℕ) → AreFirstDigits bytes 0 0
no_digits [] = record { digits = refl; number_is = refl; few = omega arith; inside = omega arith }
no_digits (x ∷ bytes) = record { digits = refl; number_is = refl; few = omega arith; inside = omega arith }

pub small_value : (bytes : List ℕ) (k value : ℕ) → AreFirstDigits bytes k value → k < 19 → value < 10 ^ 18
small_value bytes k value is few =
    omega (arith, is.number_is, few_digits (take k bytes) 18 is.digits (omega (arith, few, length-take-le k bytes is.inside)))

record IsDigit (byte : ℕ) : Type 0 where
  from : 48 ≤ byte
  to : byte ≤ 57

digit_range : (byte : ℕ) → is_ascii_digit byte ≡ true → IsDigit byte
digit_range byte digit =
    let parts = and_parts (nat_le 48 byte) (nat_le byte 57) digit in
    record { from = leb-true 48 byte parts.0; to = leb-true byte 57 parts.1 }

pub digit_more : (bytes : List ℕ) (k value : ℕ) → AreFirstDigits bytes k value → k < length bytes → k < 19 → is_ascii_digit (get_or bytes k 0) ≡ true
    → AreFirstDigits bytes (k + 1) (value * 10 + (get_or bytes k 0 - 48))
digit_more bytes k value is inside few digit =
    let range = digit_range (get_or bytes k 0) digit in
    record {
      digits = ap are_digits (take_more bytes k 0 inside) ∙ digits_push (take k bytes) (get_or bytes k 0) is.digits digit;
      number_is = omega (
        arith,
        is.number_is,
        digits_value_more 10 bytes k inside,
        digit_value_digit (get_or bytes k 0) (range.from, range.to),
      );
      few = omega (arith, few);
      inside = omega (arith, inside);
    }

-- the bytes before and after the byte at a place
parts_at : (bytes : List ℕ) (k byte : ℕ) → k < length bytes → get_or bytes k 0 ≡ byte → bytes ≡ take k bytes ++ byte ∷ drop (k + 1) bytes
parts_at bytes k byte inside at =
    let next : suc k ≡ k + 1 = omega arith in
    split_at bytes k 0 inside
    ∙ (ap (λ (b : ℕ). take k bytes ++ b ∷ drop (suc k) bytes) at ∙ ap (λ (n : ℕ). take k bytes ++ byte ∷ drop n bytes) next)

none_leads : (bytes : List ℕ) (k : ℕ) → get_or bytes 0 0 ≢ 48 → has_leading_zero (take k bytes) ≡ false
none_leads [] zero other = refl
none_leads [] (suc k) other = refl
none_leads (x ∷ bytes) zero other = refl
none_leads (x ∷ bytes) (suc k) other = rw (ne_eqb x 48 other) (and_false (nat_lt 1 (length (x ∷ take k bytes))))
  where
    and_false : (b : Bool) → (b && false) ≡ false
    and_false true = refl
    and_false false = refl

-- a number that ends at a space
pub clock_parts : (bytes : List ℕ) (k number : ℕ) (later : List ℕ) → AreFirstDigits bytes k number → k < length bytes → k ≢ 0 → get_or bytes 0 0 ≢ 48
    → get_or bytes k 0 ≡ 32 → later ≡ drop (k + 1) bytes → bytes ≡ decimal number ++ 32 ∷ later
clock_parts bytes k number later is inside some other space rest =
    let size = length-take-le k bytes is.inside in
    let word : take k bytes ≡ decimal number =
    decimal_value (take k bytes) (ne_eqb (length (take k bytes)) 0 (λ e. some (omega (arith, e, size)))) (omega (arith, size, is.few)) is.digits (none_leads bytes k other)
    (omega (arith, few_digits (take k bytes) 19 is.digits (omega (arith, size, is.few))))
    ∙ ap decimal (sym is.number_is) in
    parts_at bytes k 32 inside space
    ∙ (ap (λ (w : List ℕ). w ++ 32 ∷ drop (k + 1) bytes) word ∙ ap (λ (t : List ℕ). decimal number ++ 32 ∷ t) (sym rest))

-- a number of one digit
pub one_digit : (bytes : List ℕ) (end number : ℕ) (later : List ℕ) → 3 ≤ length bytes → is_ascii_digit (get_or bytes 0 0) ≡ true → get_or bytes 1 0 ≡ end
    → number ≡ get_or bytes 0 0 - 48 → later ≡ drop 2 bytes → bytes ≡ decimal number ++ end ∷ later
one_digit (a ∷ b ∷ bytes) end number later long digit ends is rest =
    let range = digit_range a digit in
    let text : decimal number ≡ a ∷ [] =
    decimal_digit number (omega (arith, is, range.to)) ∙ ap (λ (n : ℕ). n ∷ []) (let e : 48 + number ≡ a = omega (arith, is, range.from) in e) in
    rw (text, rest, sym ends) refl
one_digit _ end number later long digit ends is rest = absurd (omega (arith, long))

-- a number of two digits
pub two_digits : (bytes : List ℕ) (end number : ℕ) (later : List ℕ) → 3 ≤ length bytes → is_ascii_digit (get_or bytes 0 0) ≡ true → get_or bytes 0 0 ≢ 48
    → is_ascii_digit (get_or bytes 1 0) ≡ true → get_or bytes 2 0 ≡ end → number ≡ (get_or bytes 0 0 - 48) * 10 + (get_or bytes 1 0 - 48) → later ≡ drop 3 bytes
    → bytes ≡ decimal number ++ end ∷ later
two_digits (a ∷ b ∷ c ∷ bytes) end number later long digit other second ends is rest =
    let first = digit_range a digit in
    let last = digit_range b second in
    let tens : number / 10 ≡ a - 48 = omega (arith, is, first.from, last.from, last.to) in
    let ones : 48 + number % 10 ≡ b = omega (arith, is, first.from, last.from, last.to) in
    let front : decimal (number / 10) ≡ a ∷ [] =
    ap decimal tens ∙ (decimal_digit (a - 48) (omega (arith, first.to)) ∙ ap (λ (n : ℕ). n ∷ []) (let e : 48 + (a - 48) ≡ a = omega (arith, first.from) in e)) in
    let text : decimal number ≡ a ∷ b ∷ [] =
    decimal_step number (omega (arith, is, first.from, other)) (omega (arith, is, first.to, last.to))
    ∙ (ap (λ (w : List ℕ). w ++ (48 + number % 10) ∷ []) front ∙ ap (λ (n : ℕ). a ∷ n ∷ []) ones) in
    rw (text, rest, sym ends) refl
two_digits _ end number later long digit other second ends is rest = absurd (omega (arith, long))

-- The words of a move.

pub take_parts : (script : ScriptData) (bytes number : List ℕ) (from : ℕ) (later : List ℕ) → 5 ≤ length bytes → get_or bytes 0 0 ≡ 116 → get_or bytes 1 0 ≡ 97
    → get_or bytes 2 0 ≡ 107 → get_or bytes 3 0 ≡ 101 → get_or bytes 4 0 ≡ 32 → number ≡ drop 5 bytes → number ≡ decimal from ++ 10 ∷ later
    → bytes ≡ spaced (step_words script (Take from)) ++ 10 ∷ later
take_parts script (t ∷ a ∷ k ∷ e ∷ s ∷ bytes) number from later long is_t is_a is_k is_e is_s rest is =
    let text : bytes ≡ (decimal from ++ []) ++ 10 ∷ later = sym rest ∙ (is ∙ ap (λ (w : List ℕ). w ++ 10 ∷ later) (sym (append-nil (decimal from)))) in
    rw (is_t, is_a, is_k, is_e, is_s) (ap (λ (w : List ℕ). 116 ∷ 97 ∷ 107 ∷ 101 ∷ 32 ∷ w) text)
take_parts script _ number from later long is_t is_a is_k is_e is_s rest is = absurd (omega (arith, long))

pub act_parts : (script : ScriptData) (bytes name : List ℕ) (client : ℕ) (later : List ℕ) → 5 ≤ length bytes → get_or bytes 0 0 ≡ 97 → get_or bytes 1 0 ≡ 99
    → get_or bytes 2 0 ≡ 116 → get_or bytes 3 0 ≡ 32 → name ≡ drop 4 bytes → name ≡ client_name script client ++ 10 ∷ later
    → bytes ≡ spaced (step_words script (Act client)) ++ 10 ∷ later
act_parts script (a ∷ c ∷ t ∷ s ∷ bytes) name client later long is_a is_c is_t is_s rest is =
    let text : bytes ≡ (client_name script client ++ []) ++ 10 ∷ later =
    sym rest ∙ (is ∙ ap (λ (w : List ℕ). w ++ 10 ∷ later) (sym (append-nil (client_name script client)))) in
    rw (is_a, is_c, is_t, is_s) (ap (λ (w : List ℕ). 97 ∷ 99 ∷ 116 ∷ 32 ∷ w) text)
act_parts script _ name client later long is_a is_c is_t is_s rest is = absurd (omega (arith, long))

-- a name that ends at a line end
pub client_parts : (script : ScriptData) (bytes name later : List ℕ) (k client : ℕ) → position is_line_end bytes ≡ Some k → name ≡ take k bytes
    → later ≡ drop (k + 1) bytes → client_number script name ≡ Some client → bytes ≡ client_name script client ++ 10 ∷ later
client_parts script bytes name later k client found front back is =
    let at = found_at is_line_end bytes k found in
    let word : take k bytes ≡ client_name script client = sym front ∙ sym (client_found script name client is) in
    at.parts
    ∙ (ap (λ (b : ℕ). take k bytes ++ b ∷ drop (k + 1) bytes) (eqb-true at.byte 10 at.ends_piece)
    ∙ (ap (λ (w : List ℕ). w ++ 10 ∷ drop (k + 1) bytes) word ∙ ap (λ (t : List ℕ). client_name script client ++ 10 ∷ t) (sym back)))

later_words : (script : ScriptData) (step : Step) → flat_map after_space (step_words script step) ≡ 32 ∷ spaced (step_words script step)
later_words script (Act client) = refl
later_words script (Take from) = refl

-- the word `move`, two numbers, and what the move does
pub move_parts : (script : ScriptData) (bytes first second third later : List ℕ) (clock node : ℕ) (step : Step) → 5 ≤ length bytes → get_or bytes 0 0 ≡ 109
    → get_or bytes 1 0 ≡ 111 → get_or bytes 2 0 ≡ 118 → get_or bytes 3 0 ≡ 101 → get_or bytes 4 0 ≡ 32 → first ≡ drop 5 bytes → first ≡ decimal clock ++ 32 ∷ second
    → second ≡ decimal node ++ 32 ∷ third → third ≡ spaced (step_words script step) ++ 10 ∷ later → bytes ≡ written script (MoveLine clock node step) ++ 10 ∷ later
move_parts script (m ∷ o ∷ v ∷ e ∷ s ∷ bytes) first second third later clock node step long is_m is_o is_v is_e is_s rest a b c =
    let words = flat_map after_space (step_words script step) in
    let inner : (decimal node ++ words) ++ 10 ∷ later ≡ second =
    append_assoc (decimal node) words (10 ∷ later)
    ∙ (ap (λ (w : List ℕ). decimal node ++ (w ++ 10 ∷ later)) (later_words script step) ∙ sym (b ∙ ap (λ (t : List ℕ). decimal node ++ 32 ∷ t) c)) in
    let outer : (decimal clock ++ 32 ∷ (decimal node ++ words)) ++ 10 ∷ later ≡ first =
    append_assoc (decimal clock) (32 ∷ (decimal node ++ words)) (10 ∷ later) ∙ (ap (λ (t : List ℕ). decimal clock ++ 32 ∷ t) inner ∙ sym a) in
    rw (is_m, is_o, is_v, is_e, is_s) (ap (λ (t : List ℕ). 109 ∷ 111 ∷ 118 ∷ 101 ∷ 32 ∷ t) (sym (outer ∙ rest)))
move_parts script _ first second third later clock node step long is_m is_o is_v is_e is_s rest a b c = absurd (omega (arith, long))
