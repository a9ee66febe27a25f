-- A line that begins with the word `move` and two numbers.
use Rattle.std.proofs.Common.{◌≡◌, ◌∙◌, ℕ, zero, suc, ◌+◌, ◌-◌, ◌*◌, ◌<◌, ◌≤◌, ◌^◌, ◌&&◌, nat_lt, nat_le, Bool, true, false, List, [], ◌∷◌, ◌++◌, codes, length, take, drop, get_or, Option, Some, None, option_map, take_all, refl, sym, ap, subst, arith, length-take-le, lt-ltb, le-leb, leb-true, ne_eqb}
use denote.Ref.{Bor}
use Rattle.std.specs.Char.{is_ascii_digit}
use Rattle.std.specs.Str.Parse.{digits_value}
use Rattle.std.proofs.Math.Seq.{split_at}
use Rattle.std.proofs.lemmas.Bool.{and_parts}
use Rattle.std.proofs.lemmas.List.{take_more}
use Rattle.std.proofs.lemmas.Int.Digits.{digits_value_more}
use Rattle.std.proofs.lemmas.Str.{digit_value_digit}
use Rattle.lt_text.specs.Text.{fields, is_space, HasNone}
use Rattle.lt_text.specs.Number.{are_digits, has_leading_zero, exact_number}
use Rattle.lt_text.proofs.TextLemmas.{field_piece, field_last}
use Rattle.lt_text.proofs.NumberLemmas.{few_digits}
use Rattle.lt_modes.specs.declared.moves.Step.TheVariants.{Act, Take}
use Rattle.lt_modes.specs.Script.{ScriptData}
use Rattle.lt_spec.specs.Holdings.{Holding}
use Rattle.lt_journal.specs.declared.line.Line.TheVariants.{Bad}
use Rattle.lt_journal.specs.Grammar.{lock_of, lock_line, line_of, move_told, step_line, move_line, step_told, node_told, client_told, BeginsWithNumber, AreFirstDigits, below}

-- the word `move` is the first field
pub move_first : (line : List ℕ) → 5 ≤ length line → get_or line 0 0 ≡ 109 → get_or line 1 0 ≡ 111 → get_or line 2 0 ≡ 118 → get_or line 3 0 ≡ 101
    → get_or line 4 0 ≡ 32 → fields line ≡ codes "move" ∷ fields (drop 5 line)
move_first (m ∷ o ∷ v ∷ e ∷ s ∷ rest) long is_m is_o is_v is_e is_s =
    rw (is_m, is_o, is_v, is_e, is_s) (field_piece (codes "move") 32 rest (refl, (refl, (refl, (refl, tt)))) refl)
move_first _ long is_m is_o is_v is_e is_s = absurd (omega (arith, long))

-- the word `act` is
pub act_first : (words : List ℕ) → 4 ≤ length words → get_or words 0 0 ≡ 97 → get_or words 1 0 ≡ 99 → get_or words 2 0 ≡ 116 → get_or words 3 0 ≡ 32
    → fields words ≡ codes "act" ∷ fields (drop 4 words)
act_first (a ∷ c ∷ t ∷ s ∷ rest) long is_a is_c is_t is_s =
    rw (is_a, is_c, is_t, is_s) (field_piece (codes "act") 32 rest (refl, (refl, (refl, tt))) refl)
act_first _ long is_a is_c is_t is_s = absurd (omega (arith, long))

-- the word `take` is
pub take_first : (words : List ℕ) → 5 ≤ length words → get_or words 0 0 ≡ 116 → get_or words 1 0 ≡ 97 → get_or words 2 0 ≡ 107 → get_or words 3 0 ≡ 101
    → get_or words 4 0 ≡ 32 → fields words ≡ codes "take" ∷ fields (drop 5 words)
take_first (t ∷ a ∷ k ∷ e ∷ s ∷ rest) long is_t is_a is_k is_e is_s =
    rw (is_t, is_a, is_k, is_e, is_s) (field_piece (codes "take") 32 rest (refl, (refl, (refl, (refl, tt)))) refl)
take_first _ long is_t is_a is_k is_e is_s = absurd (omega (arith, long))

-- What a number's digits are, one by one.

digits_push : (front : List ℕ) (byte : ℕ) → are_digits front ≡ true → is_ascii_digit byte ≡ true → are_digits (front ++ byte ∷ []) ≡ true
digits_push [] byte digits digit = rw digit refl
digits_push (x ∷ front) byte digits digit =
    let parts = and_parts (is_ascii_digit x) (are_digits front) digits in
    rw (parts.0, digits_push front byte parts.1 digit) refl

no_spaces : (front : List ℕ) → are_digits front ≡ true → HasNone is_space front
no_spaces [] digits = tt
no_spaces (x ∷ front) digits =
    let parts = and_parts (is_ascii_digit x) (are_digits front) digits in
    (not_space x parts.0, no_spaces front parts.1)
  where
    not_space : (x : ℕ) → is_ascii_digit x ≡ true → is_space x ≡ false
    not_space x digit = ne_eqb x 32 (λ space. let h : is_ascii_digit 32 ≡ true = subst (λ (n : ℕ). is_ascii_digit n ≡ true) space digit in cc)

pub no_digits : (words : List ℕ) → AreFirstDigits words 0 0
no_digits [] = record { digits = refl; number_is = refl; few = omega arith; inside = omega arith }
no_digits (x ∷ words) = record { digits = refl; number_is = refl; few = omega arith; inside = omega arith }

pub small_value : (words : List ℕ) (k value : ℕ) → AreFirstDigits words k value → k < 19 → value < 10 ^ 18
small_value words k value is few =
    omega (arith, is.number_is, few_digits (take k words) 18 is.digits (omega (arith, few, length-take-le k words is.inside)))

pub digit_more : (words : List ℕ) (k value : ℕ) → AreFirstDigits words k value → k < length words → k < 19 → is_ascii_digit (get_or words k 0) ≡ true
    → AreFirstDigits words (k + 1) (value * 10 + (get_or words k 0 - 48))
digit_more words k value is inside few digit =
    let parts = and_parts (nat_le 48 (get_or words k 0)) (nat_le (get_or words k 0) 57) digit in
    record {
      digits = ap are_digits (take_more words k 0 inside) ∙ digits_push (take k words) (get_or words k 0) is.digits digit;
      number_is = omega (
        arith,
        is.number_is,
        digits_value_more 10 words k inside,
        digit_value_digit (get_or words k 0) (leb-true 48 (get_or words k 0) parts.0, leb-true (get_or words k 0) 57 parts.1),
      );
      few = omega (arith, few);
      inside = omega (arith, inside);
    }

leading : (words : List ℕ) (k : ℕ) → (1 < k → get_or words 0 0 ≡ 48 → ⊥) → has_leading_zero (take k words) ≡ false
leading [] zero other = refl
leading [] (suc k) other = refl
leading (x ∷ words) zero other = refl
leading (x ∷ words) (suc zero) other = refl
leading (x ∷ words) (suc (suc k)) other = rw (ne_eqb x 48 (other (omega arith))) (and_false (nat_lt 1 (length (x ∷ take (suc k) words))))
  where
    and_false : (b : Bool) → (b && false) ≡ false
    and_false true = refl
    and_false false = refl

exact_short : (word : List ℕ) → 0 < length word → length word ≤ 19 → are_digits word ≡ true → has_leading_zero word ≡ false
    → exact_number word ≡ Some (digits_value 10 word)
exact_short word some few digits none =
    rw (
      lt-ltb 0 (length word) some,
      le-leb (length word) 20 (omega (arith, few)),
      digits,
      none,
      lt-ltb (digits_value 10 word) (2 ^ 64) (omega (arith, few_digits word 19 digits few)),
    ) refl

-- the number ends at a space
pub number_first : (words : List ℕ) (k : ℕ) (found : ℕ × Bor (List ℕ)) → AreFirstDigits words k found.0 → k < length words → get_or words k 0 ≡ 32
    → (k ≡ 0 → ⊥) → (1 < k → get_or words 0 0 ≡ 48 → ⊥) → found.1.now ≡ drop (k + 1) words → BeginsWithNumber (fields words) (Some found)
number_first words k found is inside space some other rest =
    let word = take k words in
    let size = length-take-le k words is.inside in
    let next : suc k ≡ k + 1 = omega arith in
    let parts : words ≡ word ++ 32 ∷ found.1.now =
    split_at words k 0 inside
    ∙ (ap (λ (byte : ℕ). word ++ byte ∷ drop (suc k) words) space
    ∙ (ap (λ (n : ℕ). word ++ 32 ∷ drop n words) next ∙ ap (λ (bytes : List ℕ). word ++ 32 ∷ bytes) (sym rest))) in
    let cut : fields words ≡ word ∷ fields found.1.now = ap fields parts ∙ field_piece word 32 found.1.now (no_spaces word is.digits) refl in
    let exact : exact_number word ≡ Some found.0 =
    exact_short word (omega (arith, size, some)) (omega (arith, size, is.few)) is.digits (leading words k other) ∙ ap (λ (n : ℕ). Some n) (sym is.number_is) in
    subst (λ (ws : List (List ℕ)). BeginsWithNumber ws (Some found)) (sym cut) (exact, refl)

-- the only word is a number
pub only_number : (script : ScriptData) (words : List ℕ) (count number : ℕ) → AreFirstDigits words count number → count ≡ length words → 0 < count
    → (1 < count → get_or words 0 0 ≡ 48 → ⊥) → node_told script (fields words) ≡ below script.nodes (Some number)
only_number script words count number is all some other =
    let whole : take count words ≡ words = take_all count words (omega (arith, all)) in
    let digits : are_digits words ≡ true = ap are_digits (sym whole) ∙ is.digits in
    let exact : exact_number words ≡ Some number =
    exact_short words (omega (arith, all, some)) (omega (arith, all, is.few)) digits (ap has_leading_zero (sym whole) ∙ leading words count other)
    ∙ ap (λ (n : ℕ). Some n) (ap (digits_value 10) (sym whole) ∙ sym is.number_is) in
    ap (node_told script) (field_last words (no_spaces words digits)) ∙ ap (below script.nodes) exact

-- What a line of the word `move` says.

pub take_told : (script : ScriptData) (words : List (List ℕ)) → step_told script (codes "take" ∷ words) ≡ option_map Take (node_told script words)
take_told script [] = refl
take_told script (word ∷ []) = refl
take_told script (word ∷ next ∷ later) = refl

pub act_told : (script : ScriptData) (words : List (List ℕ)) → step_told script (codes "act" ∷ words) ≡ option_map Act (client_told script words)
act_told script [] = refl
act_told script (word ∷ []) = refl
act_told script (word ∷ next ∷ later) = refl

no_step : (clock : ℕ) (node : Option ℕ) → Bad ≡ move_line (Some clock) node None
no_step clock None = refl
no_step clock (Some node) = refl

pub by_step : (script : ScriptData) (clock node : ℕ) (words : List (List ℕ))
    → step_line script clock node words ≡ move_line (Some clock) (below script.nodes (Some node)) (step_told script words)
by_step script clock node [] = no_step clock (below script.nodes (Some node))
by_step script clock node (verb ∷ []) = no_step clock (below script.nodes (Some node))
by_step script clock node (verb ∷ word ∷ []) = refl
by_step script clock node (verb ∷ word ∷ next ∷ later) = no_step clock (below script.nodes (Some node))

pub says_move : (script : ScriptData) (words : List (List ℕ)) → line_of script (codes "move" ∷ words) ≡ move_told script words
says_move script [] = refl
says_move script (a ∷ []) = refl
says_move script (a ∷ b ∷ []) = refl
says_move script (a ∷ b ∷ c ∷ []) = by_lock (lock_of script a b c)
  where
    by_lock : (lock : Option Holding) → lock_line script.version (codes "move") lock ≡ Bad
    by_lock None = refl
    by_lock (Some lock) = refl
says_move script (a ∷ b ∷ c ∷ d ∷ []) = refl
says_move script (a ∷ b ∷ c ∷ d ∷ e ∷ later) = refl

two_numbers : (script : ScriptData) (a b : List ℕ) (clock node : ℕ) (words : List (List ℕ)) → exact_number a ≡ Some clock → exact_number b ≡ Some node
    → move_told script (a ∷ b ∷ words) ≡ step_line script clock node words
two_numbers script a b clock node [] is also = refl
two_numbers script a b clock node (c ∷ []) is also = refl
two_numbers script a b clock node (c ∷ d ∷ []) is also = rw (is, also) refl
two_numbers script a b clock node (c ∷ d ∷ e ∷ later) is also = refl

pub numbers_first : (script : ScriptData) (a : List ℕ) (words : List (List ℕ)) (clock node : ℕ × Bor (List ℕ)) → BeginsWithNumber (a ∷ words) (Some clock)
    → BeginsWithNumber (fields clock.1.now) (Some node) → move_told script (a ∷ words) ≡ step_line script clock.0 node.0 (fields node.1.now)
numbers_first script a [] clock node first second = absurd (first)
numbers_first script a (b ∷ later) clock node first second =
    by_later later first.0 (subst (λ (ws : List (List ℕ)). BeginsWithNumber ws (Some node)) first.1 second)
  where
    by_later : (later : List (List ℕ)) → exact_number a ≡ Some clock.0 → BeginsWithNumber (b ∷ later) (Some node)
        → move_told script (a ∷ b ∷ later) ≡ step_line script clock.0 node.0 (fields node.1.now)
    by_later [] is next = absurd (next)
    by_later (c ∷ later) is next =
        two_numbers script a b clock.0 node.0 (c ∷ later) is next.0 ∙ ap (step_line script clock.0 node.0) (sym next.1)
