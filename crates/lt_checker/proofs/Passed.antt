-- The lines that are passed before a place that begins a line.
use Rattle.std.proofs.Common.{◌≡◌, ◌∙◌, ℕ, zero, suc, ◌+◌, ◌-◌, ◌<◌, ◌≤◌, Bool, true, false, cond, if◌then◌else◌, List, [], ◌∷◌, ◌++◌, length, map, take, drop, get_or, position, Some, refl, sym, ap, subst, inl, inr, arith, length-append, length-take-le, length-drop, take-append-drop, take-take, take-add, get_or-drop}
use Rattle.std.specs.List.{AllByRecursion, position_from}
use Rattle.std.proofs.lemmas.Iterator.Adapters.{position_from-zero}
use Rattle.std.proofs.lemmas.List.{take_more, take-append-le, drop-take, length-map}
use Rattle.lt_text.specs.Text.{cut_at, lines, put_front, without_return, is_line_end, HasNone}
use Rattle.lt_text.proofs.TextLemmas.{cut_piece}
use Rattle.lt_journal.specs.Split.{ArePassed, is_journal_line, after_first_line, after_lines}
use Rattle.lt_law_journals.specs.Checking.{EndsLine, HasJournal}
use Rattle.lt_law_journals.proofs.Inputs.{no_lines}
use Rattle.lt_checker.specs.Heads.{HasNoJournal, IsLastLine}
use Rattle.lt_checker.proofs.LastLines.{lines_both}
use Rattle.lt_checker.proofs.Moving.{few_lines}

-- the first of the lines may be taken off before the others
first_off : (n : ℕ) (bytes : List ℕ) → after_lines (suc n) bytes ≡ after_lines n (after_first_line bytes)
first_off zero bytes = refl
first_off (suc n) bytes = ap after_first_line (first_off n bytes)

front_byte : (x : ℕ) (later rest : List ℕ) (pieces : List (List ℕ)) (b : Bool) → is_line_end x ≡ b → 0 < length pieces
    → after_lines (length pieces) later ≡ rest → after_lines (length (if b then [] ∷ pieces else put_front x pieces)) (x ∷ later) ≡ rest
unfolding after_first_line
front_byte x later rest pieces true ends some passed =
    first_off (length pieces) (x ∷ later) ∙ (ap (λ (b : Bool). after_lines (length pieces) (if b then later else after_first_line later)) ends ∙ passed)
front_byte x later rest [] false ends some passed = absurd (omega (arith, some))
front_byte x later rest (piece ∷ pieces) false ends some passed =
    first_off (length pieces) (x ∷ later)
    ∙ (ap (λ (b : Bool). after_lines (length pieces) (if b then later else after_first_line later)) ends
    ∙ (sym (first_off (length pieces) later) ∙ passed))

some_pieces : (byte : ℕ) (bytes : List ℕ) → 0 < length (cut_at is_line_end (byte ∷ bytes))
unfolding cut_at
some_pieces byte bytes = by_end (is_line_end byte) (cut_at is_line_end bytes)
  where
    by_end : (b : Bool) (pieces : List (List ℕ)) → 0 < length (if b then [] ∷ pieces else put_front byte pieces)
    by_end true pieces = omega arith
    by_end false [] = omega arith
    by_end false (piece ∷ pieces) = omega arith

some_ended : (front : List ℕ) → 0 < length (cut_at is_line_end (front ++ 10 ∷ []))
some_ended [] = some_pieces 10 []
some_ended (x ∷ front) = some_pieces x (front ++ 10 ∷ [])

pieces_passed : (front rest : List ℕ) → after_lines (length (cut_at is_line_end (front ++ 10 ∷ []))) ((front ++ 10 ∷ []) ++ rest) ≡ rest
unfolding cut_at after_first_line
pieces_passed [] rest = refl
pieces_passed (x ∷ front) rest =
    front_byte x ((front ++ 10 ∷ []) ++ rest) rest (cut_at is_line_end (front ++ 10 ∷ [])) (is_line_end x) refl (some_ended front) (pieces_passed front rest)

count_lines : (bytes : List ℕ) → length (lines bytes) ≡ length (cut_at is_line_end bytes)
unfolding lines
count_lines bytes = length-map (cut_at is_line_end bytes) without_return

passes : (front rest : List ℕ) → EndsLine front → after_lines (length (lines front)) (front ++ rest) ≡ rest
passes front rest (inl none) =
    ap (λ (f : List ℕ). after_lines (length (lines f)) (f ++ rest)) none ∙ ap (λ (ls : List (List ℕ)). after_lines (length ls) rest) no_lines
passes front rest (inr whole) =
    ap (λ (f : List ℕ). after_lines (length (lines f)) (f ++ rest)) whole.1
    ∙ (ap (λ (n : ℕ). after_lines n ((whole.0 ++ 10 ∷ []) ++ rest)) (count_lines (whole.0 ++ 10 ∷ [])) ∙ pieces_passed whole.0 rest)

none_first : {X : Type 0} (test : X → Bool) (i : ℕ) (xs ys : List X) → AllByRecursion (λ x. test x ≡ false) xs
    → position_from test i (xs ++ ys) ≡ position_from test (i + length xs) ys
none_first test i [] ys none = ap (λ (n : ℕ). position_from test n ys) (let e : i ≡ i + 0 = omega arith in e)
none_first test i (x ∷ xs) ys none =
    ap (λ (b : Bool). cond b (Some i) (position_from test (i + 1) (xs ++ ys))) none.0
    ∙ (none_first test (i + 1) xs ys none.1 ∙ ap (λ (n : ℕ). position_from test n ys) (let e : i + 1 + length xs ≡ i + suc (length xs) = omega arith in e))

pub are_passed : (bytes : List ℕ) (at count : ℕ) → at ≤ length bytes → EndsLine (take at bytes) → HasNoJournal (take at bytes)
    → count ≡ length (lines (take at bytes)) → ArePassed bytes at count
are_passed bytes at count within begins none counted =
    let front = take at bytes in
    let rest = drop at bytes in
    let all : front ++ rest ≡ bytes = take-append-drop at bytes in
    let parts : lines bytes ≡ lines front ++ lines rest = ap lines (sym all) ∙ lines_both front rest begins in
    record {
      within = within;
      few = omega (arith, counted, few_lines front, length-take-le at bytes within);
      passed = sym (passes front rest begins) ∙ (ap (λ (n : ℕ). after_lines n (front ++ rest)) (sym counted) ∙ ap (after_lines count) all);
      none = position_from-zero is_journal_line (lines bytes)
          ∙ (ap (position_from is_journal_line 0) parts
          ∙ (none_first is_journal_line 0 (lines front) (lines rest) none
          ∙ ap (λ (n : ℕ). position_from is_journal_line n (lines rest)) (let e : 0 + length (lines front) ≡ count = omega (arith, counted) in e)));
      count_is = omega (arith, counted, ap (λ (ls : List (List ℕ)). length ls) parts, length-append (lines front) (lines rest));
    }

-- where the last line begins
pub last_passed : (bytes : List ℕ) (last count : ℕ) → IsLastLine bytes last → count ≡ length (lines (take last bytes)) → ArePassed bytes last count
last_passed bytes last count is counted = are_passed bytes last count is.within is.begins is.no_journal counted

-- in the first bytes
pub passed_in : (bytes : List ℕ) (k at count : ℕ) → at ≤ k → k ≤ length bytes → IsLastLine (take k bytes) at → count ≡ length (lines (take at bytes))
    → ArePassed bytes at count
passed_in bytes k at count before inside is counted =
    let same : take at (take k bytes) ≡ take at bytes = take-take at k bytes before in
    are_passed bytes at count (omega (arith, before, inside)) (subst EndsLine same is.begins) (subst HasNoJournal same is.no_journal) counted

-- The line that ends at a place.

pub record IsWholeLine (bytes : List ℕ) (at k : ℕ) : Type 0 where
  pub text : take (k + 1 - at) (drop at bytes) ≡ take (k - at) (drop at bytes) ++ 10 ∷ []
  pub none : HasNone is_line_end (take (k - at) (drop at bytes))

pub whole_line : (bytes : List ℕ) (at k : ℕ) → at ≤ k → k < length bytes → get_or bytes k 0 ≡ 10 → IsLastLine (take k bytes) at → IsWholeLine bytes at k
whole_line bytes at k before inside e is =
    let count : k - at + 1 ≡ k + 1 - at = omega (arith, before) in
    let place : at + (k - at) ≡ k = omega (arith, before) in
    let byte : get_or (drop at bytes) (k - at) 0 ≡ 10 = get_or-drop at bytes (k - at) 0 ∙ (ap (λ (n : ℕ). get_or bytes n 0) place ∙ e) in
    record {
      text = ap (λ (n : ℕ). take n (drop at bytes)) (sym count)
          ∙ (take_more (drop at bytes) (k - at) 0 (omega (arith, length-drop at bytes, inside, before))
          ∙ ap (λ (b : ℕ). take (k - at) (drop at bytes) ++ b ∷ []) byte);
      none = subst (HasNone is_line_end) (ap (λ (n : ℕ). drop at (take n bytes)) (sym place) ∙ drop-take at (k - at) bytes) is.no_end;
    }

one_line : (line : List ℕ) → HasNone is_line_end line → lines (line ++ 10 ∷ []) ≡ without_return line ∷ []
unfolding lines cut_at
one_line line none = ap (map without_return) (cut_piece is_line_end line 10 [] none refl)

pub its_line : (bytes : List ℕ) (at k : ℕ) → IsWholeLine bytes at k → lines (take (k + 1 - at) (drop at bytes)) ≡ without_return (take (k - at) (drop at bytes)) ∷ []
its_line bytes at k whole = ap lines whole.text ∙ one_line (take (k - at) (drop at bytes)) whole.none

-- it isn't `journal`
pub no_journal_at : (bytes : List ℕ) (at k : ℕ) → IsWholeLine bytes at k → is_journal_line (without_return (take (k - at) (drop at bytes))) ≡ false
    → HasNoJournal (take (k + 1 - at) (drop at bytes))
no_journal_at bytes at k whole other = subst (AllByRecursion (λ line. is_journal_line line ≡ false)) (sym (its_line bytes at k whole)) (other, tt)

-- it is
pub journal_at : (bytes : List ℕ) (at k : ℕ) → IsWholeLine bytes at k → is_journal_line (without_return (take (k - at) (drop at bytes))) ≡ true
    → HasJournal (take (k + 1 - at) (drop at bytes))
journal_at bytes at k whole is =
    let line = without_return (take (k - at) (drop at bytes)) in (
      0,
      ap (position is_journal_line) (its_line bytes at k whole)
          ∙ (position_from-zero is_journal_line (line ∷ []) ∙ ap (λ (b : Bool). cond b (Some 0) (position_from is_journal_line 1 [])) is),
    )

-- a line more is passed
pub one_more : (bytes : List ℕ) (at k count : ℕ) → at ≤ k → k < length bytes → IsLastLine (take k bytes) at → IsWholeLine bytes at k
    → count ≡ length (lines (take at bytes)) → count + 1 ≡ length (lines (take (k + 1) bytes))
one_more bytes at k count before inside is whole counted =
    let begins : EndsLine (take at bytes) = subst EndsLine (take-take at k bytes before) is.begins in
    let size : at + (k + 1 - at) ≡ k + 1 = omega (arith, before) in
    let parts : take (k + 1) bytes ≡ take at bytes ++ take (k + 1 - at) (drop at bytes) =
    ap (λ (n : ℕ). take n bytes) (sym size) ∙ take-add at (k + 1 - at) bytes in
    let all : lines (take (k + 1) bytes) ≡ lines (take at bytes) ++ without_return (take (k - at) (drop at bytes)) ∷ [] =
    ap lines parts
    ∙ (lines_both (take at bytes) (take (k + 1 - at) (drop at bytes)) begins ∙ ap (λ (ls : List (List ℕ)). lines (take at bytes) ++ ls) (its_line bytes at k whole)) in
    omega (
      arith,
      counted,
      ap (λ (ls : List (List ℕ)). length ls) all,
      length-append (lines (take at bytes)) (without_return (take (k - at) (drop at bytes)) ∷ []),
    )

-- the same count in more bytes
pub count_kept : (bytes more : List ℕ) (at count : ℕ) → at ≤ length bytes → count ≡ length (lines (take at bytes))
    → count ≡ length (lines (take at (bytes ++ more)))
count_kept bytes more at count within counted = counted ∙ ap (λ (b : List ℕ). length (lines b)) (sym (take-append-le at bytes more within))
