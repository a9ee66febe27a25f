-- Where the last line of some bytes begins, and when the line `journal` has come.
use Rattle.std.proofs.Common.{◌≡◌, ◌∙◌, ℕ, ◌+◌, ◌-◌, ◌<◌, ◌≤◌, Bool, true, false, cond, List, [], ◌∷◌, ◌++◌, Option, Some, None, get_or, length, take, drop, position, if◌then◌else◌, refl, sym, ap, subst, inl, inr, arith, take-add, take-append-drop, take_all, take_at, length-drop, get_or-drop, length-take-le, length-append, eqb-true}
use Rattle.std.specs.List.{AllByRecursion, position_from}
use Rattle.std.proofs.lemmas.Iterator.Adapters.{position_from-zero}
use Rattle.std.proofs.lemmas.List.{take_more, take-append-le, drop-append-le, drop-take, drop_all, length-map, length_push, take-take}
use Rattle.std.proofs.lemmas.List.Quantifiers.{position-Some}
use Rattle.lt_text.specs.Text.{cut_at, lines, put_front, without_return, is_line_end, HasNone}
use Rattle.lt_text.proofs.TextLemmas.{cut_last, found_at, none_found}
use Rattle.lt_journal.specs.Split.{is_journal_line, input_parts}
use Rattle.lt_law_journals.specs.Checking.{EndsInLineFeed, EndsLine, after_place}
use Rattle.lt_law_journals.proofs.Inputs.{journal_part, lines_split, no_lines}
use Rattle.lt_checker.specs.Heads.{HasNoJournal, IsLastLine}

-- a line feed ends a line
whole_to : (bytes : List ℕ) (k : ℕ) → k < length bytes → get_or bytes k 0 ≡ 10 → EndsInLineFeed (take (k + 1) bytes)
whole_to bytes k inside e = (take k bytes, take_more bytes k 0 inside ∙ ap (λ (byte : ℕ). take k bytes ++ byte ∷ []) e)

-- the line that ends here is whole
pub line_whole : (bytes : List ℕ) (at k : ℕ) → at ≤ k → k < length bytes → get_or bytes k 0 ≡ 10 → EndsInLineFeed (take (k + 1 - at) (drop at bytes))
line_whole bytes at k before inside e =
    let count : k - at + 1 ≡ k + 1 - at = omega (arith, before) in
    let place : at + (k - at) ≡ k = omega (arith, before) in
    subst (λ (n : ℕ). EndsInLineFeed (take n (drop at bytes))) count
    (whole_to (drop at bytes) (k - at) (omega (arith, length-drop at bytes, inside, before))
    (get_or-drop at bytes (k - at) 0 ∙ (ap (λ (n : ℕ). get_or bytes n 0) place ∙ e)))

-- the bytes are those before the line, the line, and the rest
pub in_three : (bytes : List ℕ) (at k : ℕ) → at ≤ k → (take at bytes ++ take (k + 1 - at) (drop at bytes)) ++ drop (k + 1) bytes ≡ bytes
in_three bytes at k before =
    let count : at + (k + 1 - at) ≡ k + 1 = omega (arith, before) in
    ap (λ (t : List ℕ). t ++ drop (k + 1) bytes) (sym (take-add at (k + 1 - at) bytes) ∙ ap (λ (n : ℕ). take n bytes) count)
    ∙ take-append-drop (k + 1) bytes

-- in the first bytes the last line begins after a line end
pub begins_in : (bytes : List ℕ) (k last : ℕ) → last ≤ k → IsLastLine (take k bytes) last → EndsLine (take last bytes)
begins_in bytes k last before is = subst EndsLine (take-take last k bytes before) is.begins

all_both : {X : Type 0} (P : X → Type 0) (xs ys : List X) → AllByRecursion P xs → AllByRecursion P ys → AllByRecursion P (xs ++ ys)
all_both P [] ys h k = k
all_both P (x ∷ xs) ys h k = (h.0, all_both P xs ys h.1 k)

-- it isn't the line `journal`
abbrev IsOther : List ℕ → Type 0
IsOther line = is_journal_line line ≡ false

-- after a line end the lines go on with those of the rest
pub lines_both : (front rest : List ℕ) → EndsLine front → lines (front ++ rest) ≡ lines front ++ lines rest
lines_both front rest (inl none) =
    ap (λ (t : List ℕ). lines (t ++ rest)) none
    ∙ sym (ap (λ (t : List ℕ). lines t ++ lines rest) none ∙ ap (λ (ls : List (List ℕ)). ls ++ lines rest) no_lines)
lines_both front rest (inr whole) = lines_split front rest whole

-- Where the last line begins, as the bytes come.

pub no_line : IsLastLine [] 0
no_line = record { within = omega arith; begins = inl refl; no_end = tt; no_journal = subst (AllByRecursion IsOther) (sym no_lines) tt }

-- bytes that end no line
goes_on : (xs more : List ℕ) (last : ℕ) → IsLastLine xs last → HasNone is_line_end more → IsLastLine (xs ++ more) last
goes_on xs more last is other =
    let front : take last (xs ++ more) ≡ take last xs = take-append-le last xs more is.within in
    record {
      within = omega (arith, is.within, length-append xs more);
      begins = subst EndsLine (sym front) is.begins;
      no_end = subst (HasNone is_line_end) (sym (drop-append-le last xs more is.within))
          (all_both (λ (b : ℕ). is_line_end b ≡ false) (drop last xs) more is.no_end other);
      no_journal = subst HasNoJournal (sym front) is.no_journal;
    }

-- a line end of a line that isn't `journal`
begins_next : (xs : List ℕ) (last : ℕ) → IsLastLine xs last → HasNoJournal (drop last (xs ++ 10 ∷ [])) → IsLastLine (xs ++ 10 ∷ []) (length (xs ++ 10 ∷ []))
begins_next xs last is none =
    let all = xs ++ 10 ∷ [] in
    let n = length all in
    let front : take last all ≡ take last xs = take-append-le last xs (10 ∷ []) is.within in
    let begins : EndsLine (take last all) = subst EndsLine (sym front) is.begins in
    let parts : lines all ≡ lines (take last all) ++ lines (drop last all) =
    ap lines (sym (take-append-drop last all)) ∙ lines_both (take last all) (drop last all) begins in
    let whole : take n all ≡ all = take_all n all (omega arith) in
    record {
      within = omega arith;
      begins = subst EndsLine (sym whole) (inr (xs, refl));
      no_end = subst (HasNone is_line_end) (sym (drop_all n all (omega arith))) tt;
      no_journal = subst HasNoJournal (sym whole)
          (subst (AllByRecursion IsOther) (sym parts) (all_both IsOther (lines (take last all)) (lines (drop last all)) (subst HasNoJournal (sym front) is.no_journal) none));
    }

-- the bytes up to the next line end end no line
pub next_part : (bytes : List ℕ) (from more last : ℕ) → HasNone is_line_end (take more (drop from bytes)) → IsLastLine (take from bytes) last
    → IsLastLine (take (from + more) bytes) last
next_part bytes from more last none is =
    subst (λ (b : List ℕ). IsLastLine b last) (sym (take-add from more bytes)) (goes_on (take from bytes) (take more (drop from bytes)) last is none)

-- nor do those after the last line end
pub last_part : (bytes : List ℕ) (from last : ℕ) → HasNone is_line_end (drop from bytes) → IsLastLine (take from bytes) last → IsLastLine bytes last
last_part bytes from last none is =
    subst (λ (b : List ℕ). IsLastLine b last) (take-append-drop from bytes) (goes_on (take from bytes) (drop from bytes) last is none)

-- the first line end from a place on stands so many bytes after it
pub record EndsAt (bytes : List ℕ) (from more : ℕ) : Type 0 where
  pub inside : from + more < length bytes
  pub ends : get_or bytes (from + more) 0 ≡ 10
  pub none : HasNone is_line_end (take more (drop from bytes))

rest_of : (bytes : List ℕ) (from : ℕ) → take (length bytes - from) (drop from bytes) ≡ drop from bytes
rest_of bytes from = take_all (length bytes - from) (drop from bytes) (omega (arith, length-drop from bytes))

pub ends_at : (bytes : List ℕ) (from more : ℕ) → Some more ≡ position is_line_end (take (length bytes - from) (drop from bytes)) → EndsAt bytes from more
ends_at bytes from more searched =
    let found = found_at is_line_end (drop from bytes) more (sym (searched ∙ ap (position is_line_end) (rest_of bytes from))) in
    record {
      inside = omega (arith, found.inside, length-drop from bytes);
      ends = sym (get_or-drop from bytes more 0) ∙ eqb-true (get_or (drop from bytes) more 0) 10 (position-Some is_line_end (drop from bytes) more 0 (sym (searched ∙ ap (position is_line_end) (rest_of bytes from)))).1;
      none = found.none_earlier;
    }

-- where none is found there is none
pub none_after : (bytes : List ℕ) (from : ℕ) → None ≡ position is_line_end (take (length bytes - from) (drop from bytes)) → HasNone is_line_end (drop from bytes)
none_after bytes from searched =
    none_found is_line_end (drop from bytes) (sym (searched ∙ ap (position is_line_end) (rest_of bytes from)))

pub next_line_end : (bytes : List ℕ) (k last : ℕ) → last ≤ k → k < length bytes → get_or bytes k 0 ≡ 10 → IsLastLine (take k bytes) last
    → HasNoJournal (take (k + 1 - last) (drop last bytes)) → IsLastLine (take (k + 1) bytes) (k + 1)
next_line_end bytes k last before inside e is none =
    let all : take (k + 1) bytes ≡ take k bytes ++ 10 ∷ [] = take_more bytes k 0 inside ∙ ap (λ (byte : ℕ). take k bytes ++ byte ∷ []) e in
    let count : last + (k + 1 - last) ≡ k + 1 = omega (arith, before) in
    let line : take (k + 1 - last) (drop last bytes) ≡ drop last (take k bytes ++ 10 ∷ []) =
    sym (drop-take last (k + 1 - last) bytes) ∙ (ap (λ (n : ℕ). drop last (take n bytes)) count ∙ ap (drop last) all) in
    let size : length (take k bytes ++ 10 ∷ []) ≡ k + 1 = omega (arith, length_push (take k bytes) 10, length-take-le k bytes (omega (arith, inside))) in
    subst (λ (b : List ℕ). IsLastLine b (k + 1)) (sym all)
    (subst (λ (n : ℕ). IsLastLine (take k bytes ++ 10 ∷ []) n) size (begins_next (take k bytes) last is (subst HasNoJournal line none)))

-- more bytes, none of which was looked at
pub so_far : (bytes more : List ℕ) (n last : ℕ) → n ≡ length bytes → IsLastLine bytes last → IsLastLine (take n (bytes ++ more)) last
so_far bytes more n last size is = subst (λ (b : List ℕ). IsLastLine b last) (sym (take_at bytes more n (sym size))) is

-- where it is none of the first ones, it is the last
found_last : {X : Type 0} (test : X → Bool) (i k : ℕ) (xs ys : List X) → AllByRecursion (λ x. test x ≡ false) xs → length ys ≤ 1
    → position_from test i (xs ++ ys) ≡ Some k → i + length (xs ++ ys) ≤ k + 1
found_last test i k [] [] none few e = absurd (cc)
found_last test i k [] (y ∷ []) none few e = by_test (test y) e
  where
    by_test : (b : Bool) → cond b (Some i) None ≡ Some k → i + 1 ≤ k + 1
    by_test true at = let same : i ≡ k = cc in omega (arith, same)
    by_test false at = absurd (cc)
found_last test i k [] (y ∷ z ∷ ys) none few e = absurd (omega (arith, few))
found_last test i k (x ∷ xs) ys none few e =
    let at : position_from test (i + 1) (xs ++ ys) ≡ Some k = sym (ap (λ (b : Bool). cond b (Some i) (position_from test (i + 1) (xs ++ ys))) none.0) ∙ e in
    omega (arith, found_last test (i + 1) k xs ys none.1 few at)

some_pieces : (byte : ℕ) (bytes : List ℕ) → 0 < length (cut_at is_line_end (byte ∷ bytes))
unfolding cut_at
some_pieces byte bytes = by_end (is_line_end byte) (cut_at is_line_end bytes)
  where
    by_end : (b : Bool) (pieces : List (List ℕ)) → 0 < length (if b then [] ∷ pieces else put_front byte pieces)
    by_end true pieces = omega arith
    by_end false [] = omega arith
    by_end false (piece ∷ pieces) = omega arith

no_bytes : (bytes : List ℕ) → lines bytes ≡ [] → bytes ≡ []
unfolding lines
no_bytes [] e = refl
no_bytes (byte ∷ bytes) e =
    absurd (omega (arith, some_pieces byte bytes, length-map (cut_at is_line_end (byte ∷ bytes)) without_return, ap (λ (ls : List (List ℕ)). length ls) e))

one_line : (bytes : List ℕ) → HasNone is_line_end bytes → length (lines bytes) ≤ 1
unfolding lines
one_line [] none = omega (arith, ap (λ (ls : List (List ℕ)). length ls) no_lines)
one_line (byte ∷ bytes) none =
    omega (
      arith,
      length-map (cut_at is_line_end (byte ∷ bytes)) without_return,
      ap (λ (ls : List (List ℕ)). length ls) (cut_last is_line_end byte bytes none),
    )

-- where no line before the last is `journal`, nothing stands after such a line
pub all_script : (bytes : List ℕ) (last : ℕ) → IsLastLine bytes last → drop (input_parts bytes).journal bytes ≡ []
all_script bytes last is =
    let front = take last bytes in
    let rest = drop last bytes in
    let parts : lines bytes ≡ lines front ++ lines rest = ap lines (sym (take-append-drop last bytes)) ∙ lines_both front rest is.begins in
    no_bytes (drop (input_parts bytes).journal bytes) (journal_part bytes ∙ by_place parts (position is_journal_line (lines bytes)) refl)
  where
    by_place : lines bytes ≡ lines (take last bytes) ++ lines (drop last bytes) → (o : Option ℕ) → position is_journal_line (lines bytes) ≡ o → after_place (lines bytes) o ≡ []
    by_place parts None e = refl
    by_place parts (Some k) e =
        let all = lines (take last bytes) ++ lines (drop last bytes) in
        let at : position_from is_journal_line 0 all ≡ Some k =
        sym (position_from-zero is_journal_line all) ∙ (ap (position is_journal_line) (sym parts) ∙ e) in
        let end = found_last is_journal_line 0 k (lines (take last bytes)) (lines (drop last bytes)) is.no_journal (one_line (drop last bytes) is.no_end) at in
        drop_all (k + 1) (lines bytes) (omega (arith, end, ap (λ (ls : List (List ℕ)). length ls) parts))
