-- A text of plain bytes and line feeds has plain lines.
use Rattle.std.proofs.Common.{◌≡◌, ℕ, zero, suc, ◌-◌, ◌==◌, ◌&&◌, true, false, nat_lt, List, [], ◌∷◌, length, take, map, inl, inr, refl, ◌*◌, ◌<◌, ◌≤◌, ◌^◌, ◌≢◌, ◌||◌, Bool, not, nat_le, ◌++◌, get_or, Option, Some, None, Ok, arith, length-append, codes, slice_index, leb-true, le-leb, lt-ltb, le-ltb, ne_eqb, eqb-true, bytes_eq, decimal}
use Rattle.std.specs.List.{list_all, AllByRecursion}
use Rattle.std.proofs.lemmas.Bool.{cases_Bool, and_parts, and_from, or_cases, or_parts, not-true}
use Rattle.std.specs.Char.{is_ascii_digit, is_ascii_alphabetic, is_ascii_alphanumeric}
use Rattle.std.specs.Int.{is_in_range}
use Rattle.std.proofs.lemmas.Fmt.{length-decimal-le, decimal_nonempty}
use Rattle.lt_modes.specs.Script.{ScriptData}
use Rattle.lt_spec.specs.Script.{is_name, is_name_byte, is_reserved}
use Rattle.lt_text.specs.Text.{lines, cut_at, put_front, is_line_end, without_return, spaced, each_after_space, is_blank, is_filled, IsWord, IsLine}
use Rattle.lt_text.proofs.TextLemmas.{words_spaced}
use Rattle.lt_text.proofs.NumberLemmas.{decimal_are_digits}
use Rattle.lt_script.specs.Faults.{is_plain_byte, declared, form_fault, after_form}
use Rattle.lt_script.specs.Steps.{is_text_byte, is_plain_line, ArePlain}
use Rattle.lt_script.specs.Forms.{FormData, form_in}
use Rattle.lt_script.specs.Reading.{line_step, says_nothing}

put_plain : (byte : ℕ) (pieces : List (List ℕ)) → is_plain_byte byte ≡ true → ArePlain pieces → ArePlain (put_front byte pieces)
put_plain byte [] e h = (and_from (is_plain_byte byte) (is_plain_line []) e refl, tt)
put_plain byte (piece ∷ pieces) e h = (and_from (is_plain_byte byte) (is_plain_line piece) e h.0, h.1)

no_end : (byte : ℕ) → is_line_end byte ≡ false → is_text_byte byte ≡ true → is_plain_byte byte ≡ true
no_end byte other e = elim (or_cases (is_plain_byte byte) (byte == 10) e) [
  | inl plain ↦ plain
  | inr end ↦ absurd (cc)
]

pieces_plain : (bytes : List ℕ) → list_all is_text_byte bytes ≡ true → ArePlain (cut_at is_line_end bytes)
unfolding cut_at
pieces_plain [] e = tt
pieces_plain (byte ∷ bytes) e =
    let parts = and_parts (is_text_byte byte) (list_all is_text_byte bytes) e in
    let later = pieces_plain bytes parts.1 in
    elim (cases_Bool (is_line_end byte)) [
      | inl here ↦ rw here (refl, later)
      | inr other ↦ rw other (put_plain byte (cut_at is_line_end bytes) (no_end byte other parts.0) later)
    ]

take_plain : (line : List ℕ) (k : ℕ) → is_plain_line line ≡ true → is_plain_line (take k line) ≡ true
take_plain [] zero e = refl
take_plain [] (suc k) e = refl
take_plain (byte ∷ line) zero e = refl
take_plain (byte ∷ line) (suc k) e =
    let parts = and_parts (is_plain_byte byte) (is_plain_line line) e in
    and_from (is_plain_byte byte) (is_plain_line (take k line)) parts.0 (take_plain line k parts.1)

return_plain : (line : List ℕ) → is_plain_line line ≡ true → is_plain_line (without_return line) ≡ true
return_plain line e = elim (cases_Bool (nat_lt 0 (length line) && slice_index line (length line - 1) == 13)) [
  | inl ended ↦ rw ended (take_plain line (length line - 1) e)
  | inr other ↦ rw other e
]

each_plain : (pieces : List (List ℕ)) → ArePlain pieces → ArePlain (map without_return pieces)
each_plain [] h = tt
each_plain (piece ∷ pieces) h = (return_plain piece h.0, each_plain pieces h.1)

pub plain_lines : (bytes : List ℕ) → list_all is_text_byte bytes ≡ true → ArePlain (lines bytes)
unfolding lines
plain_lines bytes e = each_plain (cut_at is_line_end bytes) (pieces_plain bytes e)

-- A line of printed words is read as these words.

-- printable and no blank
abbrev pub is_inked : ℕ → Bool
is_inked byte = nat_le 33 byte && nat_le byte 126

-- a word of a printed line
abbrev pub is_printed : List ℕ → Bool
is_printed word = is_filled word && nat_le (length word) 32 && list_all is_inked word

all_pass : (p : ℕ → Bool) (P : ℕ → Type 0) → ((byte : ℕ) → p byte ≡ true → P byte) → (bytes : List ℕ) → list_all p bytes ≡ true → AllByRecursion P bytes
all_pass p P each [] e = tt
all_pass p P each (byte ∷ bytes) e =
    let parts = and_parts (p byte) (list_all p bytes) e in
    (each byte parts.0, all_pass p P each bytes parts.1)

all_weaker : (p q : ℕ → Bool) → ((byte : ℕ) → p byte ≡ true → q byte ≡ true) → (bytes : List ℕ) → list_all p bytes ≡ true → list_all q bytes ≡ true
all_weaker p q each [] e = refl
all_weaker p q each (byte ∷ bytes) e =
    let parts = and_parts (p byte) (list_all p bytes) e in
    and_from (q byte) (list_all q bytes) (each byte parts.0) (all_weaker p q each bytes parts.1)

all_append : (p : ℕ → Bool) (xs ys : List ℕ) → list_all p xs ≡ true → list_all p ys ≡ true → list_all p (xs ++ ys) ≡ true
all_append p [] ys e f = f
all_append p (x ∷ xs) ys e f =
    let parts = and_parts (p x) (list_all p xs) e in
    and_from (p x) (list_all p (xs ++ ys)) parts.0 (all_append p xs ys parts.1 f)

inked_bounds : (byte : ℕ) → is_inked byte ≡ true → (33 ≤ byte) × (byte ≤ 126)
inked_bounds byte e =
    let parts = and_parts (nat_le 33 byte) (nat_le byte 126) e in
    (leb-true 33 byte parts.0, leb-true byte 126 parts.1)

-- printable
is_clear : ℕ → Bool
is_clear byte = nat_le 32 byte && nat_le byte 126

clear_from : (byte : ℕ) → 32 ≤ byte → byte ≤ 126 → is_clear byte ≡ true
unfolding is_clear
clear_from byte low high = and_from (nat_le 32 byte) (nat_le byte 126) (le-leb 32 byte low) (le-leb byte 126 high)

clear_bounds : (byte : ℕ) → is_clear byte ≡ true → (32 ≤ byte) × (byte ≤ 126)
unfolding is_clear
clear_bounds byte e =
    let parts = and_parts (nat_le 32 byte) (nat_le byte 126) e in
    (leb-true 32 byte parts.0, leb-true byte 126 parts.1)

inked_clear : (byte : ℕ) → is_inked byte ≡ true → is_clear byte ≡ true
inked_clear byte e = let b = inked_bounds byte e in clear_from byte (omega (arith, b.0)) b.1

-- the parts of the test
pub record Printed (word : List ℕ) : Type 0 where
  pub filled : is_filled word ≡ true
  pub short : length word ≤ 32
  pub inked : list_all is_inked word ≡ true

pub printed : (word : List ℕ) → is_printed word ≡ true → Printed word
printed word e =
    let outer = and_parts (is_filled word && nat_le (length word) 32) (list_all is_inked word) e in
    let inner = and_parts (is_filled word) (nat_le (length word) 32) outer.0 in
    record { filled = inner.0; short = leb-true (length word) 32 inner.1; inked = outer.1 }

abbrev pub ArePrinted : List (List ℕ) → Type 0
ArePrinted ws = AllByRecursion (λ word. is_printed word ≡ true) ws

printed_word : (word : List ℕ) → is_printed word ≡ true → IsWord word
printed_word word e =
    let p = printed word e in
    (p.filled, all_pass is_inked (λ byte. is_blank byte ≡ false) no_blank word p.inked)
  where
    no_blank : (byte : ℕ) → is_inked byte ≡ true → is_blank byte ≡ false
    no_blank byte e = let b = inked_bounds byte e in rw (ne_eqb byte 32 (λ same. omega (arith, b.0)), ne_eqb byte 9 (λ same. omega (arith, b.0)))

pub printed_words : (ws : List (List ℕ)) → ArePrinted ws → AllByRecursion IsWord ws
printed_words [] good = tt
printed_words (word ∷ ws) good = (printed_word word good.0, printed_words ws good.1)

clear_tail : (ws : List (List ℕ)) → ArePrinted ws → list_all is_clear (each_after_space ws) ≡ true
clear_tail [] good = refl
clear_tail (word ∷ ws) good =
    and_from (is_clear 32) (list_all is_clear (word ++ each_after_space ws)) (clear_from 32 (omega arith) (omega arith))
    (all_append is_clear word (each_after_space ws) (all_weaker is_inked is_clear inked_clear word (printed word good.0).inked) (clear_tail ws good.1))

clear_line : (ws : List (List ℕ)) → ArePrinted ws → list_all is_clear (spaced ws) ≡ true
clear_line [] good = refl
clear_line (word ∷ ws) good = all_append is_clear word (each_after_space ws) (all_weaker is_inked is_clear inked_clear word (printed word good.0).inked) (clear_tail ws good.1)

short_tail : (ws : List (List ℕ)) → ArePrinted ws → length (each_after_space ws) ≤ 33 * length ws
short_tail [] good = omega arith
short_tail (word ∷ ws) good = omega (arith, length-append word (each_after_space ws), (printed word good.0).short, short_tail ws good.1)

short_line : (ws : List (List ℕ)) → ArePrinted ws → length (spaced ws) ≤ 33 * length ws
short_line [] good = omega arith
short_line (word ∷ ws) good = omega (arith, length-append word (each_after_space ws), (printed word good.0).short, short_tail ws good.1)

last_clear : (line : List ℕ) (k : ℕ) → list_all is_clear line ≡ true → k < length line → is_clear (get_or line k 0) ≡ true
last_clear [] k e inside = absurd (omega arith)
last_clear (byte ∷ line) zero e inside = (and_parts (is_clear byte) (list_all is_clear line) e).0
last_clear (byte ∷ line) (suc k) e inside = last_clear line k (and_parts (is_clear byte) (list_all is_clear line) e).1 (omega arith)

no_return : (line : List ℕ) → list_all is_clear line ≡ true → without_return line ≡ line
no_return [] e = refl
no_return (byte ∷ line) e =
    let k : ℕ = length (byte ∷ line) - 1 in
    let b = clear_bounds (get_or (byte ∷ line) k 0) (last_clear (byte ∷ line) k e (omega arith)) in
    rw (lt-ltb 0 (length (byte ∷ line)) (omega arith), ne_eqb (get_or (byte ∷ line) k 0) 13 (λ same. omega (arith, b.0)))

-- it is a line
pub printed_line : (ws : List (List ℕ)) → ArePrinted ws → IsLine (spaced ws)
printed_line ws good =
    let clear = clear_line ws good in
    (all_pass is_clear (λ byte. is_line_end byte ≡ false) no_end (spaced ws) clear, no_return (spaced ws) clear)
  where
    no_end : (byte : ℕ) → is_clear byte ≡ true → is_line_end byte ≡ false
    no_end byte e = let b = clear_bounds byte e in ne_eqb byte 10 (λ same. omega (arith, b.0))

plain_line : (ws : List (List ℕ)) → ArePrinted ws → list_all is_plain_byte (spaced ws) ≡ true
plain_line ws good = all_weaker is_clear is_plain_byte plain (spaced ws) (clear_line ws good)
  where
    plain : (byte : ℕ) → is_clear byte ≡ true → is_plain_byte byte ≡ true
    plain byte e = let b = clear_bounds byte e in rw (le-leb 32 byte b.0, le-leb byte 126 b.1) (or_true (byte == 9))
      where
        or_true : (t : Bool) → (t || true) ≡ true
        or_true true = refl
        or_true false = refl

-- the words of a line that is no comment
pub record IsPrintedLine (ws : List (List ℕ)) : Type 0 where
  pub are_printed : ArePrinted ws
  pub few : length ws ≤ 5
  pub says : says_nothing ws ≡ false

-- such a line with a form without fault is read
pub line_read : (v : ℕ) (st : Option ScriptData) (ws : List (List ℕ)) (form : FormData) → IsPrintedLine ws → form_in (declared v st).version ws ≡ Some form → form_fault v st form ≡ None
    → line_step v st (spaced ws) ≡ Ok (Some (after_form (declared v st) form))
unfolding line_step
line_read v st ws form good has_form clean =
    rw (
      words_spaced ws (printed_words ws good.are_printed),
      good.says,
      plain_line ws good.are_printed,
      le-ltb 200 (length (spaced ws)) (omega (arith, short_line ws good.are_printed, good.few)),
      has_form,
      clean,
    )

-- names, numbers and fixed words are printed words

inked_range : (lo hi byte : ℕ) → 33 ≤ lo → hi ≤ 126 → is_in_range lo hi byte ≡ true → is_inked byte ≡ true
inked_range lo hi byte low high e =
    let parts = and_parts (nat_le lo byte) (nat_le byte hi) e in
    let above = leb-true lo byte parts.0 in
    let below = leb-true byte hi parts.1 in
    and_from (nat_le 33 byte) (nat_le byte 126) (le-leb 33 byte (omega arith)) (le-leb byte 126 (omega arith))

inked_one : (one byte : ℕ) → 33 ≤ one → one ≤ 126 → (byte == one) ≡ true → is_inked byte ≡ true
inked_one one byte low high e =
    let same = eqb-true byte one e in
    and_from (nat_le 33 byte) (nat_le byte 126) (le-leb 33 byte (omega arith)) (le-leb byte 126 (omega arith))

pub name_printed : (word : List ℕ) → is_name word ≡ true → is_printed word ≡ true
name_printed word e =
    let all = and_parts (nat_le (length word) 32 && is_ascii_alphabetic (get_or word 0 0) && list_all is_name_byte word) (not (is_reserved word)) e in
    let bytes = and_parts (nat_le (length word) 32 && is_ascii_alphabetic (get_or word 0 0)) (list_all is_name_byte word) all.0 in
    let first = and_parts (nat_le (length word) 32) (is_ascii_alphabetic (get_or word 0 0)) bytes.0 in
    rw (filled word first.1, first.0) (all_weaker is_name_byte is_inked inked word bytes.1)
  where
    filled : (word : List ℕ) → is_ascii_alphabetic (get_or word 0 0) ≡ true → is_filled word ≡ true
    filled [] e = absurd (cc)
    filled (byte ∷ word) e = refl

    inked : (byte : ℕ) → is_name_byte byte ≡ true → is_inked byte ≡ true
    inked byte e = elim (or_cases (is_ascii_alphanumeric byte || byte == 95 || byte == 45) (byte == 46) e) [
      | inl others ↦ elim (or_cases (is_ascii_alphanumeric byte || byte == 95) (byte == 45) others) [
        | inl more ↦ elim (or_cases (is_ascii_alphanumeric byte) (byte == 95) more) [
          | inl both ↦ elim (or_cases (is_in_range 48 57 byte || is_in_range 65 90 byte) (is_in_range 97 122 byte) both) [
            | inl two ↦ elim (or_cases (is_in_range 48 57 byte) (is_in_range 65 90 byte) two) [
              | inl digit ↦ inked_range 48 57 byte (omega arith) (omega arith) digit
              | inr upper ↦ inked_range 65 90 byte (omega arith) (omega arith) upper
            ]
            | inr lower ↦ inked_range 97 122 byte (omega arith) (omega arith) lower
          ]
          | inr line ↦ inked_one 95 byte (omega arith) (omega arith) line
        ]
        | inr dash ↦ inked_one 45 byte (omega arith) (omega arith) dash
      ]
      | inr dot ↦ inked_one 46 byte (omega arith) (omega arith) dot
    ]

pub number_printed : (n : ℕ) → n < 100 → is_printed (decimal n) ≡ true
number_printed n small =
    let fits : n < 2 ^ 64 = omega arith in
    rw (filled (decimal n) (decimal_nonempty n fits), le-leb (length (decimal n)) 32 (omega (arith, length-decimal-le 2 n (omega arith) small fits)))
    (all_weaker is_ascii_digit is_inked (λ byte e. inked_range 48 57 byte (omega arith) (omega arith) e) (decimal n) (decimal_are_digits n fits))
  where
    filled : (word : List ℕ) → 0 < length word → is_filled word ≡ true
    filled [] some = absurd (omega arith)
    filled (byte ∷ word) some = refl

-- a name begins no line of another kind, and no comment
pub record BeginsCommand (word : List ℕ) : Type 0 where
  pub not_version : bytes_eq word (codes "version") ≡ false
  pub not_nodes : bytes_eq word (codes "nodes") ≡ false
  pub not_set : bytes_eq word (codes "set") ≡ false
  pub not_client : bytes_eq word (codes "client") ≡ false
  pub no_comment : (get_or word 0 0 == 35) ≡ false

pub name_begins : (word : List ℕ) → is_name word ≡ true → BeginsCommand word
name_begins word e =
    let all = and_parts (nat_le (length word) 32 && is_ascii_alphabetic (get_or word 0 0) && list_all is_name_byte word) (not (is_reserved word)) e in
    let bytes = and_parts (nat_le (length word) 32 && is_ascii_alphabetic (get_or word 0 0)) (list_all is_name_byte word) all.0 in
    let first = and_parts (nat_le (length word) 32) (is_ascii_alphabetic (get_or word 0 0)) bytes.0 in
    let free : is_reserved word ≡ false = not-true (is_reserved word) all.1 in
    let four = or_parts (bytes_eq word (codes "nodes") || bytes_eq word (codes "set") || bytes_eq word (codes "client") || bytes_eq word (codes "journal")) (bytes_eq word (codes "version")) free in
    let three = or_parts (bytes_eq word (codes "nodes") || bytes_eq word (codes "set") || bytes_eq word (codes "client")) (bytes_eq word (codes "journal")) four.0 in
    let two = or_parts (bytes_eq word (codes "nodes") || bytes_eq word (codes "set")) (bytes_eq word (codes "client")) three.0 in
    let one = or_parts (bytes_eq word (codes "nodes")) (bytes_eq word (codes "set")) two.0 in
    record { not_version = four.1; not_nodes = one.0; not_set = one.1; not_client = two.1; no_comment = ne_eqb (get_or word 0 0) 35 (letter (get_or word 0 0) first.1) }
  where
    letter : (byte : ℕ) → is_ascii_alphabetic byte ≡ true → byte ≢ 35
    letter byte e = elim (or_cases (is_in_range 65 90 byte) (is_in_range 97 122 byte) e) [
      | inl upper ↦ λ same. let low = leb-true 65 byte (and_parts (nat_le 65 byte) (nat_le byte 90) upper).0 in omega arith
      | inr lower ↦ λ same. let low = leb-true 97 byte (and_parts (nat_le 97 byte) (nat_le byte 122) lower).0 in omega arith
    ]
