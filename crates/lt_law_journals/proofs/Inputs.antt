-- The journal's part of an input has the lines after the line `journal`.
use Rattle.std.proofs.Common.{◌≡◌, ℕ, zero, suc, ◌+◌, ◌-◌, ◌<◌, ◌≤◌, ◌⊎◌, List, [], ◌∷◌, ◌++◌, length, map, take, drop, get_or, position, Option, Some, None, refl, sym, ap, ◌∙◌, inl, inr, arith, append_assoc, drop-cons, length-append, length-drop, take_all, take_at, Bool, true, false, cond, subst, eqb-true, drop_at}
use Rattle.std.proofs.lemmas.Bool.{cases_Bool}
use Rattle.std.proofs.lemmas.List.{map-append}
use Rattle.std.proofs.lemmas.List.Quantifiers.{position-Some}
use Rattle.std.specs.List.{position_from}
use Rattle.std.proofs.lemmas.Iterator.Adapters.{position_from-zero}
use Rattle.lt_text.specs.Text.{lines, cut_at, put_front, without_return, is_line_end}
use Rattle.lt_journal.specs.Split.{is_journal_line, after_first_line, after_lines, parts_at, input_parts}
use Rattle.lt_journal.proofs.Plain.{first_line}
use Rattle.lt_law_journals.specs.Checking.{before_place, script_in, after_place, journal_in, count_before, lines_before, EndsInLineFeed, EndsLine, HasJournal, IsSettled}

-- the one is the end of the other
abbrev IsEndOf : List ℕ → List ℕ → Type 0
IsEndOf rest bytes = (front : List ℕ) × (bytes ≡ front ++ rest)

after_line_end : (bytes : List ℕ) → IsEndOf (after_first_line bytes) bytes
unfolding after_first_line
after_line_end [] = ([], refl)
after_line_end (byte ∷ bytes) = elim (cases_Bool (is_line_end byte)) [
  | inl here ↦ rw here (byte ∷ [], refl)
  | inr other ↦
      let later = after_line_end bytes in
      rw other (byte ∷ later.0, ap (λ (t : List ℕ). byte ∷ t) later.1)
]

after_lines_end : (k : ℕ) (bytes : List ℕ) → IsEndOf (after_lines k bytes) bytes
after_lines_end zero bytes = ([], refl)
after_lines_end (suc k) bytes =
    let first = after_lines_end k bytes in
    let next = after_line_end (after_lines k bytes) in
    (first.0 ++ next.0, first.1 ∙ (ap (λ (t : List ℕ). first.0 ++ t) next.1 ∙ sym (append_assoc first.0 next.0 (after_first_line (after_lines k bytes)))))

end_dropped : (rest bytes : List ℕ) → IsEndOf rest bytes → drop (length bytes - length rest) bytes ≡ rest
end_dropped rest bytes is_end =
    let front = is_end.0 in
    let count : length front ≡ length bytes - length rest = omega (arith, length-append front rest, ap (λ (t : List ℕ). length t) is_end.1) in
    ap (drop (length bytes - length rest)) is_end.1 ∙ drop_at front rest (length bytes - length rest) count

pub lines_after : (k : ℕ) (bytes : List ℕ) → k ≤ length (lines bytes) → lines (after_lines k bytes) ≡ drop k (lines bytes)
lines_after zero bytes within = refl
lines_after (suc k) bytes within =
    (first_line (after_lines k bytes) (get_or (lines bytes) k []) (drop (suc k) (lines bytes))
    (lines_after k bytes (omega (arith, within)) ∙ drop-cons (lines bytes) k [] (omega (arith, within)))).others

pub no_lines : lines [] ≡ []
unfolding lines cut_at
no_lines = refl

drop_all : (bytes : List ℕ) → drop (length bytes) bytes ≡ []
drop_all [] = refl
drop_all (byte ∷ bytes) = drop_all bytes

at_place : (bytes : List ℕ) (o : Option ℕ) → position is_journal_line (lines bytes) ≡ o → lines (drop (parts_at bytes o).journal bytes) ≡ after_place (lines bytes) o
at_place bytes None e = ap lines (drop_all bytes) ∙ no_lines
at_place bytes (Some k) e =
    let inside = (position-Some is_journal_line (lines bytes) k [] e).0 in
    ap lines (end_dropped (after_lines (k + 1) bytes) bytes (after_lines_end (k + 1) bytes)) ∙ lines_after (k + 1) bytes (omega (arith, inside))

pub journal_part : (bytes : List ℕ) → lines (drop (input_parts bytes).journal bytes) ≡ journal_in (lines bytes)
journal_part bytes = at_place bytes (position is_journal_line (lines bytes)) refl

count_at : (bytes : List ℕ) (o : Option ℕ) → (parts_at bytes o).lines ≡ count_before (lines bytes) o
count_at bytes None = refl
count_at bytes (Some k) = refl

pub lines_counted : (bytes : List ℕ) → (input_parts bytes).lines ≡ lines_before (lines bytes)
lines_counted bytes = count_at bytes (position is_journal_line (lines bytes))

-- the first line with its line end, and what stands after it
record FirstPart (bytes : List ℕ) : Type 0 where
  front : List ℕ
  parts : bytes ≡ front ++ after_first_line bytes
  whole : (after_first_line bytes ≡ []) ⊎ EndsInLineFeed front

first_part : (bytes : List ℕ) → FirstPart bytes
unfolding after_first_line
first_part [] = record { front = []; parts = refl; whole = inl refl }
first_part (byte ∷ bytes) = elim (cases_Bool (is_line_end byte)) [
  | inl here ↦ record {
    front = byte ∷ [];
    parts = rw here refl;
    whole = inr ([], ap (λ (b : ℕ). b ∷ []) (eqb-true byte 10 here));
  }
  | inr other ↦
      let later = first_part bytes in
      record {
        front = byte ∷ later.front;
        parts = rw other (ap (λ (t : List ℕ). byte ∷ t) later.parts);
        whole = rw other (elim later.whole [
          | inl none ↦ inl none
          | inr ends ↦ inr (byte ∷ ends.0, ap (λ (t : List ℕ). byte ∷ t) ends.1)
        ]);
      }
]

some_front : (byte : ℕ) (pieces : List (List ℕ)) → 0 < length (put_front byte pieces)
some_front byte [] = omega arith
some_front byte (piece ∷ pieces) = omega arith

some_cut : (front : List ℕ) → 0 < length (cut_at is_line_end (front ++ 10 ∷ []))
unfolding cut_at
some_cut [] = omega arith
some_cut (byte ∷ front) = elim (cases_Bool (is_line_end byte)) [
  | inl here ↦ rw here (omega arith)
  | inr other ↦ rw other (some_front byte (cut_at is_line_end (front ++ 10 ∷ [])))
]

put_append : (byte : ℕ) (pieces more : List (List ℕ)) → 0 < length pieces → put_front byte (pieces ++ more) ≡ put_front byte pieces ++ more
put_append byte [] more some = absurd (omega (arith, some))
put_append byte (piece ∷ pieces) more some = refl

cut_split : (front rest : List ℕ) → cut_at is_line_end (front ++ 10 ∷ rest) ≡ cut_at is_line_end (front ++ 10 ∷ []) ++ cut_at is_line_end rest
unfolding cut_at
cut_split [] rest = refl
cut_split (byte ∷ front) rest = elim (cases_Bool (is_line_end byte)) [
  | inl here ↦ rw here (ap (λ (ps : List (List ℕ)). [] ∷ ps) (cut_split front rest))
  | inr other ↦ rw other (ap (put_front byte) (cut_split front rest)
      ∙ put_append byte (cut_at is_line_end (front ++ 10 ∷ [])) (cut_at is_line_end rest) (some_cut front))
]

pub lines_split : (front rest : List ℕ) → EndsInLineFeed front → lines (front ++ rest) ≡ lines front ++ lines rest
unfolding lines
lines_split front rest whole =
    ap (λ (t : List ℕ). lines (t ++ rest)) whole.1
    ∙ (ap lines (append_assoc whole.0 (10 ∷ []) rest)
    ∙ (ap (map without_return) (cut_split whole.0 rest)
    ∙ (map-append without_return (cut_at is_line_end (whole.0 ++ 10 ∷ [])) (cut_at is_line_end rest)
    ∙ ap (λ (t : List ℕ). lines t ++ lines rest) (sym whole.1))))

-- what stands before line k, where there is one, has the lines before it
front_lines : (front rest : List ℕ) (all : List (List ℕ)) (k : ℕ) → lines front ++ drop k all ≡ all → k ≤ length all → lines front ≡ take k all
front_lines front rest all k e within =
    let count : length (lines front) ≡ k = omega (arith, length-append (lines front) (drop k all), length-drop k all, ap (λ (t : List (List ℕ)). length t) e) in
    sym (take_at (lines front) (drop k all) k count) ∙ ap (take k) e

some_left : (all : List (List ℕ)) (k : ℕ) → k < length all → drop k all ≡ [] → ⊥
some_left all k inside e = omega (arith, inside, length-drop k all, ap (λ (t : List (List ℕ)). length t) e)

script_at : (bytes : List ℕ) (k : ℕ) → k < length (lines bytes) → (front : List ℕ) × (bytes ≡ front ++ after_lines k bytes) × (lines front ≡ take k (lines bytes))
script_at bytes zero inside = ([], refl, no_lines)
script_at bytes (suc k) inside =
    let first = after_lines_end k bytes in
    let next = first_part (after_lines k bytes) in
    let rest = after_lines (suc k) bytes in
    let front = first.0 ++ next.front in
    let parts : bytes ≡ front ++ rest = first.1 ∙ (ap (λ (t : List ℕ). first.0 ++ t) next.parts ∙ sym (append_assoc first.0 next.front rest)) in
    let later = lines_after (suc k) bytes (omega (arith, inside)) in
    let whole : EndsInLineFeed front = elim next.whole [
      | inl none ↦ absurd (some_left (lines bytes) (suc k) inside (sym later ∙ (ap lines none ∙ no_lines)))
      | inr ends ↦ (first.0 ++ ends.0, ap (λ (t : List ℕ). first.0 ++ t) ends.1 ∙ sym (append_assoc first.0 ends.0 (10 ∷ [])))
    ] in (
      front,
      parts,
      front_lines front rest (lines bytes) (suc k)
          (ap (λ (ls : List (List ℕ)). lines front ++ ls) (sym later) ∙ (sym (lines_split front rest whole) ∙ ap lines (sym parts))) (omega (arith, inside)),
    )

before_at : (bytes : List ℕ) (o : Option ℕ) → position is_journal_line (lines bytes) ≡ o → lines (take (parts_at bytes o).script bytes) ≡ before_place (lines bytes) o
before_at bytes None e = ap lines (take_all (length bytes) bytes (omega arith))
before_at bytes (Some k) e =
    let part = script_at bytes k (position-Some is_journal_line (lines bytes) k [] e).0 in
    let rest = after_lines k bytes in
    let count : length part.0 ≡ length bytes - length rest = omega (arith, length-append part.0 rest, ap (λ (t : List ℕ). length t) part.1) in
    ap lines (ap (take (length bytes - length rest)) part.1 ∙ take_at part.0 rest (length bytes - length rest) count) ∙ part.2

pub script_part : (bytes : List ℕ) → lines (take (input_parts bytes).script bytes) ≡ script_in (lines bytes)
script_part bytes = before_at bytes (position is_journal_line (lines bytes)) refl

-- Once the line `journal` is whole, nothing that comes after it moves the places where an input is cut.

-- what is found stays the first one, whatever comes after
found_early : {X : Type 0} (p : X → Bool) (i k : ℕ) (xs ys : List X) → position_from p i xs ≡ Some k → position_from p i (xs ++ ys) ≡ Some k
found_early p i k [] ys e = absurd (cc)
found_early p i k (x ∷ xs) ys e = by_test (p x) e (found_early p (i + 1) k xs ys)
  where
    by_test : (b : Bool) → cond b (Some i) (position_from p (i + 1) xs) ≡ Some k
        → (position_from p (i + 1) xs ≡ Some k → position_from p (i + 1) (xs ++ ys) ≡ Some k)
        → cond b (Some i) (position_from p (i + 1) (xs ++ ys)) ≡ Some k
    by_test true at again = at
    by_test false at again = again at

-- one is found, wherever the count begins
abbrev IsFound : {X : Type 0} → (X → Bool) → List X → Type 0
IsFound p xs = (i : ℕ) → (k : ℕ) × (position_from p i xs ≡ Some k)

found_anywhere : {X : Type 0} (p : X → Bool) (i k : ℕ) (xs : List X) → position_from p i xs ≡ Some k → IsFound p xs
found_anywhere p i k [] e j = absurd (cc)
found_anywhere p i k (x ∷ xs) e j = by_test (p x) e (λ at. found_anywhere p (i + 1) k xs at (j + 1))
  where
    by_test : (b : Bool) → cond b (Some i) (position_from p (i + 1) xs) ≡ Some k
        → (position_from p (i + 1) xs ≡ Some k → (n : ℕ) × (position_from p (j + 1) xs ≡ Some n))
        → (n : ℕ) × (cond b (Some j) (position_from p (j + 1) xs) ≡ Some n)
    by_test true at again = (j, refl)
    by_test false at again = again at

found_late : {X : Type 0} (p : X → Bool) (xs ys : List X) → IsFound p ys → IsFound p (xs ++ ys)
found_late p [] ys found i = found i
found_late p (x ∷ xs) ys found i = by_test (p x) (found_late p xs ys found (i + 1))
  where
    by_test : (b : Bool) → (k : ℕ) × (position_from p (i + 1) (xs ++ ys) ≡ Some k)
        → (k : ℕ) × (cond b (Some i) (position_from p (i + 1) (xs ++ ys)) ≡ Some k)
    by_test true later = (i, refl)
    by_test false later = later

-- one is among the lines of bytes before which a line ends
journal_after : (before bytes : List ℕ) → EndsLine before → HasJournal bytes → HasJournal (before ++ bytes)
journal_after before bytes (inl none) has = subst (λ (t : List ℕ). HasJournal (t ++ bytes)) (sym none) has
journal_after before bytes (inr whole) has =
    let all : List (List ℕ) = lines before ++ lines bytes in
    let found : IsFound is_journal_line (lines bytes) =
    found_anywhere is_journal_line 0 has.0 (lines bytes) (sym (position_from-zero is_journal_line (lines bytes)) ∙ has.1) in
    let late = found_late is_journal_line (lines before) (lines bytes) found 0 in (
      late.0,
      ap (position is_journal_line) (lines_split before bytes whole) ∙ (position_from-zero is_journal_line all ∙ late.1),
    )

-- the first line ends where it did
after_whole : (front more : List ℕ) → after_first_line ((front ++ 10 ∷ []) ++ more) ≡ after_first_line (front ++ 10 ∷ []) ++ more
unfolding after_first_line
after_whole [] more = refl
after_whole (byte ∷ front) more = elim (cases_Bool (is_line_end byte)) [
  | inl here ↦ rw here refl
  | inr other ↦ rw other (after_whole front more)
]

after_first : (front : List ℕ) → EndsLine (after_first_line (front ++ 10 ∷ []))
unfolding after_first_line
after_first [] = inl refl
after_first (byte ∷ front) = elim (cases_Bool (is_line_end byte)) [
  | inl here ↦ rw here (inr (front, refl))
  | inr other ↦ rw other (after_first front)
]

-- so many whole lines are in the bytes, and what stands after them goes on as the bytes do
record Passes (k : ℕ) (front more : List ℕ) : Type 0 where
  goes_on : after_lines k (front ++ more) ≡ after_lines k front ++ more
  ends : EndsLine (after_lines k front)

passes : (k : ℕ) (front more : List ℕ) → EndsInLineFeed front → k ≤ length (lines front) → Passes k front more
passes zero front more whole within = record { goes_on = refl; ends = inr whole }
passes (suc k) front more whole within =
    let before = passes k front more whole (omega (arith, within)) in
    elim before.ends [
      | inl none ↦ absurd (omega (
        arith,
        within,
        length-drop k (lines front),
        ap (λ (ls : List (List ℕ)). length ls) (sym (lines_after k front (omega (arith, within))) ∙ (ap lines none ∙ no_lines)),
      ))
      | inr last ↦ record {
        goes_on = ap after_first_line (before.goes_on ∙ ap (λ (t : List ℕ). t ++ more) last.1)
            ∙ (after_whole last.0 more ∙ ap (λ (t : List ℕ). after_first_line t ++ more) (sym last.1));
        ends = subst (λ (t : List ℕ). EndsLine (after_first_line t)) (sym last.1) (after_first last.0);
      }
    ]

same_place : (k : ℕ) (front more : List ℕ) → EndsInLineFeed front → k ≤ length (lines front)
    → length (front ++ more) - length (after_lines k (front ++ more)) ≡ length front - length (after_lines k front)
same_place k front more whole within =
    let rest = after_lines k front in
    omega (
      arith,
      length-append front more,
      length-append rest more,
      ap (λ (t : List ℕ). length t) (passes k front more whole within).goes_on,
    )

-- the parts are told by the bytes up to the line `journal`
whole_parts : (front more : List ℕ) → EndsInLineFeed front → HasJournal front → input_parts (front ++ more) ≡ input_parts front
whole_parts front more whole has =
    let k = has.0 in
    let all : List (List ℕ) = lines front ++ lines more in
    let first = found_early is_journal_line 0 k (lines front) (lines more) (sym (position_from-zero is_journal_line (lines front)) ∙ has.1) in
    let at : position is_journal_line (lines (front ++ more)) ≡ Some k =
    ap (position is_journal_line) (lines_split front more whole) ∙ (position_from-zero is_journal_line all ∙ first) in
    let inside = (position-Some is_journal_line (lines front) k [] has.1).0 in
    let script = same_place k front more whole (omega (arith, inside)) in
    let journal = same_place (k + 1) front more whole (omega (arith, inside)) in
    let parts : parts_at (front ++ more) (Some k) ≡ parts_at front (Some k) = λ i. record { script = script i; journal = journal i; lines = k + 1 } in
    ap (parts_at (front ++ more)) at ∙ (parts ∙ sym (ap (parts_at front) has.1))

pub settled : (before line rest : List ℕ) → EndsLine before → EndsInLineFeed line → HasJournal line → IsSettled ((before ++ line) ++ rest)
settled before line rest begins whole has more =
    let front = before ++ line in
    let has_all = journal_after before line begins has in
    let whole_all : EndsInLineFeed front = (before ++ whole.0, ap (λ (t : List ℕ). before ++ t) whole.1 ∙ sym (append_assoc before whole.0 (10 ∷ []))) in
    ap input_parts (append_assoc front rest more)
    ∙ (whole_parts front (rest ++ more) whole_all has_all ∙ sym (whole_parts front rest whole_all has_all))
