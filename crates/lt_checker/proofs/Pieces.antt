-- A piece of a journal, cut at its line ends.
use Rattle.std.proofs.Common.{◌≡◌, ◌∙◌, ℕ, zero, suc, ◌+◌, ◌-◌, ◌<◌, ◌≤◌, min, Bool, true, false, cond, List, [], ◌∷◌, ◌++◌, length, take, drop, fold, get_or, Some, None, refl, sym, ap, subst, arith, inl, inr, append_assoc, append-nil, take_all, length-take, length-drop, slice_index, eqb-true, get_or-drop}
use Rattle.std.proofs.Math.Seq.{split_at, take-append-add}
use Rattle.std.proofs.lemmas.Bool.{cases_Bool, cases_lt, false≢true}
use Rattle.std.proofs.lemmas.List.{take-append-le}
use Rattle.std.proofs.lemmas.List.Sums.{fold-append}
use Rattle.memchr.specs.Find.{IsFirstByte, IsLastByte, is_byte}
use Rattle.lt_modes.specs.Script.{ScriptData}
use Rattle.lt_text.specs.Text.{is_line_end, without_return, HasNone}
use Rattle.lt_law_journals.specs.Checking.{Reader, read_on, read_at, Feed, line_ended, fed, fed_piece}

kept_all : (n : ℕ) (r more : List ℕ) → take n (take n r ++ more) ≡ take n (r ++ more)
kept_all n r more = elim (cases_lt n (length r)) [
  | inl long ↦ take-append-le n (take n r) more (omega (arith, length-take n r, long))
      ∙ (take_all n (take n r) (omega (arith, length-take n r)) ∙ sym (take-append-le n r more (omega (arith, long))))
  | inr short ↦ ap (λ (l : List ℕ). take n (l ++ more)) (take_all n r short)
]

pub same_first : (bytes : List ℕ) (n m : ℕ) → n ≡ min (length bytes) m → take n bytes ≡ take m bytes
same_first bytes n m e = elim (cases_lt m (length bytes)) [
  | inl more ↦
      let same : n ≡ m = omega (arith, e, more) in
      ap (λ (k : ℕ). take k bytes) same
  | inr fits ↦ take_all n bytes (omega (arith, e, fits)) ∙ sym (take_all m bytes (omega (arith, fits)))
]

-- as many of the bytes as there is room for
pub kept_room : (rest bytes : List ℕ) (n : ℕ) → length rest ≤ 201 → n ≡ min (length bytes) (201 - length rest) → rest ++ take n bytes ≡ take 201 (rest ++ bytes)
kept_room rest bytes n few e =
    let all : length rest + (201 - length rest) ≡ 201 = omega (arith, few) in
    ap (λ (t : List ℕ). rest ++ t) (same_first bytes n (201 - length rest) e)
    ∙ (sym (take-append-add rest bytes (201 - length rest)) ∙ ap (λ (k : ℕ). take k (rest ++ bytes)) all)

-- bytes with no line end among them are kept, as far as there is room
pub fed_part : (script : ScriptData) (reader : Reader) (rest part : List ℕ) → length rest ≤ 201 → HasNone is_line_end part
    → fed_piece script (record { reader = reader; rest = rest }) part ≡ record { reader = reader; rest = take 201 (rest ++ part) }
fed_part script reader rest [] few none = ap (λ (r : List ℕ). record { reader = reader; rest = r }) (sym (ap (take 201) (append-nil rest) ∙ take_all 201 rest few))
fed_part script reader rest (byte ∷ part) few none =
    let kept : Feed = record { reader = reader; rest = rest } in
    let more = take 201 (rest ++ byte ∷ []) in
    ap (λ (b : Bool). fold (fed script) (cond b (line_ended script kept) (record { reader = reader; rest = more })) part) none.0
    ∙ (fed_part script reader more part (omega (arith, length-take 201 (rest ++ byte ∷ []))) none.1
    ∙ ap (λ (r : List ℕ). record { reader = reader; rest = r }) (kept_all 201 (rest ++ byte ∷ []) part ∙ ap (take 201) (append_assoc rest (byte ∷ []) part)))

-- a line is read where it ends
pub fed_line : (script : ScriptData) (reader : Reader) (rest line later : List ℕ) → length rest ≤ 201 → HasNone is_line_end line
    → fed_piece script (record { reader = reader; rest = rest }) (line ++ 10 ∷ later)
    ≡ fed_piece script (record { reader = read_on script reader (without_return (take 201 (rest ++ line))); rest = [] }) later
fed_line script reader rest line later few none =
    fold-append (fed script) (record { reader = reader; rest = rest }) line (10 ∷ later)
    ∙ ap (λ (f : Feed). fold (fed script) f (10 ∷ later)) (fed_part script reader rest line few none)

-- after a bad line the reader stays as it is
still : (script : ScriptData) (reader : Reader) (line : List ℕ) → reader.place ≡ None → read_on script reader line ≡ reader
still script reader line bad = ap (read_at script reader line) bad

-- after a bad line only the bytes after the last line end count
pub skipped : (script : ScriptData) (reader : Reader) (rest before last : List ℕ) → reader.place ≡ None
    → fed_piece script (record { reader = reader; rest = rest }) (before ++ 10 ∷ last) ≡ fed_piece script (record { reader = reader; rest = [] }) last
skipped script reader rest [] last bad =
    ap (λ (r : Reader). fed_piece script (record { reader = r; rest = [] }) last) (still script reader (without_return rest) bad)
skipped script reader rest (byte ∷ before) last bad =
    let kept : Feed = record { reader = reader; rest = rest } in
    let more = take 201 (rest ++ byte ∷ []) in
    elim (cases_Bool (is_line_end byte)) [
      | inl ends ↦
          ap (λ (b : Bool). fold (fed script) (cond b (line_ended script kept) (record { reader = reader; rest = more })) (before ++ 10 ∷ last)) ends
          ∙ (ap (λ (r : Reader). fed_piece script (record { reader = r; rest = [] }) (before ++ 10 ∷ last)) (still script reader (without_return rest) bad)
          ∙ skipped script reader [] before last bad)
      | inr other ↦
          ap (λ (b : Bool). fold (fed script) (cond b (line_ended script kept) (record { reader = reader; rest = more })) (before ++ 10 ∷ last)) other
          ∙ skipped script reader more before last bad
    ]

not_true : (b : Bool) → (b ≡ true → ⊥) → b ≡ false
not_true true h = absurd (h refl)
not_true false h = refl

none_before : (bytes : List ℕ) (k : ℕ) → ((i : ℕ) → i < k → is_line_end (slice_index bytes i) ≡ true → ⊥) → HasNone is_line_end (take k bytes)
none_before [] zero h = tt
none_before [] (suc k) h = tt
none_before (byte ∷ bytes) zero h = tt
none_before (byte ∷ bytes) (suc k) h =
    (not_true (is_line_end byte) (h 0 (omega arith)), none_before bytes k (λ i l. h (suc i) (omega (arith, l))))

none_in : (bytes : List ℕ) → ((i : ℕ) → i < length bytes → is_line_end (slice_index bytes i) ≡ true → ⊥) → HasNone is_line_end bytes
none_in [] h = tt
none_in (byte ∷ bytes) h = (not_true (is_line_end byte) (h 0 (omega arith)), none_in bytes (λ i l. h (suc i) (omega (arith, l))))

-- the bytes are those before the line end at this place, the line end and those after it
parts_at : (bytes : List ℕ) (k : ℕ) → k < length bytes → is_line_end (slice_index bytes k) ≡ true → bytes ≡ take k bytes ++ 10 ∷ drop (k + 1) bytes
parts_at bytes k inside ends =
    let next : suc k ≡ k + 1 = omega arith in
    split_at bytes k 0 inside
    ∙ (ap (λ (byte : ℕ). take k bytes ++ byte ∷ drop (suc k) bytes) (eqb-true (get_or bytes k 0) 10 ends)
    ∙ ap (λ (n : ℕ). take k bytes ++ 10 ∷ drop n bytes) next)

-- the first line end in the bytes is at this place
pub record IsCut (bytes : List ℕ) (k : ℕ) : Type 0 where
  pub inside : k < length bytes
  pub parts : bytes ≡ take k bytes ++ 10 ∷ drop (k + 1) bytes
  pub none : HasNone is_line_end (take k bytes)

pub first_cut : (bytes : List ℕ) (k : ℕ) → IsFirstByte (is_byte 10) bytes (Some k) → IsCut bytes k
first_cut bytes k found = record {
  inside = found.0.high;
  parts = parts_at bytes k found.0.high found.1;
  none = none_before bytes k (λ i l. found.0.before i (omega arith) l);
}

pub none_found : (bytes : List ℕ) → IsFirstByte (is_byte 10) bytes None → HasNone is_line_end bytes
none_found bytes none = none_in bytes (λ i l. none i (omega arith) l)

pub none_found_back : (bytes : List ℕ) → IsLastByte (is_byte 10) bytes None → HasNone is_line_end bytes
none_found_back bytes none = none_in bytes (λ i l. none i (omega arith) l)

-- what the bytes of a piece leave after a bad line, where the last line end is at this place
pub skipped_to : (script : ScriptData) (reader : Reader) (rest bytes : List ℕ) (k : ℕ) → reader.place ≡ None → IsLastByte (is_byte 10) bytes (Some k)
    → fed_piece script (record { reader = reader; rest = rest }) bytes ≡ record { reader = reader; rest = take 201 (drop (k + 1) bytes) }
skipped_to script reader rest bytes k bad found =
    let last = drop (k + 1) bytes in
    let none : HasNone is_line_end last = none_in last (λ i l ends. found.0.after (k + 1 + i) (omega arith) (omega (arith, l, length-drop (k + 1) bytes))
    (sym (ap is_line_end (get_or-drop (k + 1) bytes i 0)) ∙ ends)) in
    ap (fed_piece script (record { reader = reader; rest = rest })) (parts_at bytes k found.0.high found.1)
    ∙ (skipped script reader rest (take k bytes) last bad ∙ fed_part script reader [] last (omega arith) none)

-- the first line of what is left is read
pub next_line : (script : ScriptData) (reader next : Reader) (rest after left line later : List ℕ) (k : ℕ) → length rest ≤ 201 → IsFirstByte (is_byte 10) left (Some k)
    → line ≡ take k left → later ≡ drop (k + 1) left → next ≡ read_on script reader (without_return (take 201 (rest ++ line))) → after ≡ []
    → fed_piece script (record { reader = next; rest = after }) later ≡ fed_piece script (record { reader = reader; rest = rest }) left
next_line script reader next rest after left line later k few found line_is later_is next_is empty =
    let cut = first_cut left k found in
    let tail = drop (k + 1) left in
    let read : next ≡ read_on script reader (without_return (take 201 (rest ++ take k left))) =
    next_is ∙ ap (λ (l : List ℕ). read_on script reader (without_return (take 201 (rest ++ l)))) line_is in
    ap (fed_piece script (record { reader = next; rest = after })) later_is
    ∙ (ap (λ (r : List ℕ). fed_piece script (record { reader = next; rest = r }) tail) empty
    ∙ (ap (λ (r : Reader). fed_piece script (record { reader = r; rest = [] }) tail) read
    ∙ (sym (fed_line script reader rest (take k left) tail few cut.none)
    ∙ sym (ap (fed_piece script (record { reader = reader; rest = rest })) cut.parts))))

-- where no line end is in all bytes, none is in the last ones
none_after : (first last : List ℕ) → HasNone is_line_end (first ++ last) → HasNone is_line_end last
none_after [] last none = none
none_after (byte ∷ first) last none = none_after first last none.1

-- nor in those after this place
pub none_later : (bytes : List ℕ) (k : ℕ) → IsFirstByte (is_byte 10) bytes (Some k) → HasNone is_line_end bytes → HasNone is_line_end (drop (k + 1) bytes)
none_later bytes k found none =
    let cut = first_cut bytes k found in
    (none_after (take k bytes) (10 ∷ drop (k + 1) bytes) (subst (HasNone is_line_end) cut.parts none)).1

pub one_found : (bytes : List ℕ) (k : ℕ) → IsFirstByte (is_byte 10) bytes (Some k) → HasNone is_line_end bytes → ⊥
one_found bytes k found none =
    let cut = first_cut bytes k found in
    false≢true (sym ((none_after (take k bytes) (10 ∷ drop (k + 1) bytes) (subst (HasNone is_line_end) cut.parts none)).0))
