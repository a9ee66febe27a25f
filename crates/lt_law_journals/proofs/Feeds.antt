-- Feeding byte by byte answers as reading the lines of all bytes.
use Rattle.std.proofs.Common.{◌≡◌, ℕ, ◌+◌, ◌-◌, ◌<◌, ◌≤◌, ◌==◌, ◌&&◌, cond, Bool, true, false, nat_lt, List, [], ◌∷◌, ◌++◌, length, map, take, fold, Option, Some, None, refl, sym, ap, subst, ◌∙◌, inl, inr, arith, append_assoc, append-nil, take_all, length-take, suc, bytes_eq, Decides, slice_index, flat_map}
use Rattle.std.specs.List.{AllByRecursion}
use Rattle.std.proofs.lemmas.Bool.{cases_Bool, cases_lt, false_from_ne_true}
use Rattle.std.proofs.lemmas.List.{take-append-le}
use Rattle.std.proofs.lemmas.List.Sums.{fold-append}
use Rattle.std.proofs.lemmas.Slice.Eq.{bytes_eq-Decides}
use Rattle.lt_modes.specs.Script.{ScriptData}
use Rattle.lt_spec.specs.World.{world_after, is_at_rest, Logged}
use Rattle.lt_spec.specs.Script.{IsScript, IsShort}
use Rattle.lt_text.specs.Text.{lines, cut_at, is_line_end, without_return, HasNone, before_space, later_fields}
use Rattle.lt_text.proofs.TextLemmas.{cut_piece, cut_last}
use Rattle.lt_journal.specs.declared.line.Line.{Line}
use Rattle.lt_journal.specs.LineFits.{FitsLine}
use Rattle.lt_journal.specs.RunLines.{first_lines, moves_lines, closing_lines, IsAsWritten}
use Rattle.lt_journal.specs.declared.line.Line.TheVariants.{Bad}
use Rattle.lt_journal.specs.Grammar.{read_line}
use Rattle.lt_journal.proofs.Found.{as_written}
use Rattle.lt_journal.proofs.Written.{named, few_nodes, line_back}
use Rattle.lt_law_journals.specs.Checking.{Place, Reader, written, first_place, place_after, read_on, led_to, verdict, checked, BeginsWith, HasCome, lines_so_far, Feed, new_feed, line_ended, fed, fed_piece, ended, reader_after, by_move, by_due, checked_said}
use Rattle.lt_law_journals.proofs.Accepting.{all_fit, fit_left, fit_right, begins_all, after_due}
use Rattle.lt_law_journals.proofs.Places.{first_begins, begins_after, begins_moved, next_move}
use Rattle.lt_law_journals.proofs.Short.{short_line}

-- the reader met a bad line, or its place is one that a reader has come to
abbrev pub IsSound : ScriptData → Option Place → Type 0
IsSound script None = Unit {0}
IsSound script (Some place) = HasCome script place

pub sound_next : (script : ScriptData) (place : Place) (line : List ℕ) (n : ℕ) (next : Option Place) → HasCome script place → place_after script place line ≡ next
    → IsSound script (led_to (record { place = Some place; good = n }) next).place
sound_next script place line n None come e = tt
sound_next script place line n (Some next) come e = (come.0 ++ line ∷ [], begins_after script come.0 place line next come.1 e)

sound_on : (script : ScriptData) (place : Option Place) (n : ℕ) (line : List ℕ) → IsSound script place → IsSound script (read_on script (record { place = place; good = n }) line).place
sound_on script None n line sound = tt
sound_on script (Some place) n line sound = sound_next script place line n (place_after script place line) sound refl

pub all_so_far : (script : ScriptData) (read : List (List ℕ)) (place : Place) → IsScript script → IsShort script → BeginsWith script read place → AllByRecursion (FitsLine script) (lines_so_far script place.run)
all_so_far script read place is_script is_short b =
    let fits = all_fit script place.run is_script is_short b.is_run in
    let first = first_lines script.version in
    let moves = moves_lines script.version place.run in
    let closing = closing_lines script place.run None in
    elim (cases_Bool (is_at_rest script (world_after script place.run))) [
      | inl rests ↦ rw rests fits
      | inr moving ↦
          rw (moving, append-nil moves)
          (fit_left (FitsLine script) (first ++ moves) closing (subst (λ (ls : List Line). AllByRecursion (FitsLine script) ls) (sym (append_assoc first moves closing)) fits))
    ]

last_of : {X Y : Type 0} (P : Y → Type 0) (f : X → Y) (front : List Y) (last : Y) (xs : List X) → front ++ last ∷ [] ≡ map f xs → AllByRecursion (λ x. P (f x)) xs → P last
last_of P f [] last [] e all = absurd (cc)
last_of P f [] last (x ∷ xs) e all =
    let same : last ≡ f x = cc in
    subst P (sym same) all.0
last_of P f (y ∷ front) last [] e all = absurd (cc)
last_of P f (y ∷ front) last (x ∷ xs) e all =
    let same : front ++ last ∷ [] ≡ map f xs = cc in
    last_of P f front last xs same all.1

all_short : (script : ScriptData) (xs : List Line) → IsScript script → AllByRecursion (FitsLine script) xs → AllByRecursion (λ x. length (written script x) < 200) xs
all_short script [] is_script fits = tt
all_short script (x ∷ xs) is_script fits = (short_line script x is_script fits.0, all_short script xs is_script fits.1)

-- a line that isn't bad is short
short_after : (script : ScriptData) (place : Place) (line : List ℕ) (next : Place) → IsScript script → IsShort script → HasCome script place → place_after script place line ≡ Some next → length line < 200
short_after script place line next is_script is_short come e =
    let b = begins_after script come.0 place line next come.1 e in
    let fits = fit_left (FitsLine script) b.told next.due (subst (AllByRecursion (FitsLine script)) (sym b.parts) (all_so_far script (come.0 ++ line ∷ []) next is_script is_short b)) in
    last_of (λ (l : List ℕ). length l < 200) (written script) come.0 line b.told b.lines (all_short script b.told is_script fits)

bad_after : (script : ScriptData) (place : Place) (line : List ℕ) → IsScript script → IsShort script → HasCome script place → 200 ≤ length line → place_after script place line ≡ None
bad_after script place line is_script is_short come long = by_next (place_after script place line) refl
  where
    by_next : (next : Option Place) → place_after script place line ≡ next → place_after script place line ≡ None
    by_next None e = e
    by_next (Some next) e = absurd (omega (arith, long, short_after script place line next is_script is_short come e))

-- two long lines are bad alike
long_alike : (script : ScriptData) (place : Option Place) (n : ℕ) (a b : List ℕ) → IsScript script → IsShort script → IsSound script place → 200 ≤ length a → 200 ≤ length b
    → read_on script (record { place = place; good = n }) a ≡ read_on script (record { place = place; good = n }) b
long_alike script None n a b is_script is_short sound la lb = refl
long_alike script (Some place) n a b is_script is_short sound la lb =
    ap (led_to (record { place = Some place; good = n })) (bad_after script place a is_script is_short sound la ∙ sym (bad_after script place b is_script is_short sound lb))

length_without : (line : List ℕ) → length line ≤ length (without_return line) + 1
length_without line = elim (cases_Bool (nat_lt 0 (length line) && slice_index line (length line - 1) == 13)) [
  | inl ends ↦ rw ends (omega (arith, length-take (length line - 1) line))
  | inr other ↦ rw other (omega arith)
]

-- of a longer line the first 201 bytes are enough
alike : (script : ScriptData) (place : Option Place) (n : ℕ) (r : List ℕ) → IsScript script → IsShort script → IsSound script place
    → read_on script (record { place = place; good = n }) (without_return (take 201 r)) ≡ read_on script (record { place = place; good = n }) (without_return r)
alike script place n r is_script is_short sound = elim (cases_lt 201 (length r)) [
  | inl long ↦ long_alike script place n (without_return (take 201 r)) (without_return r) is_script is_short sound
      (omega (arith, length_without (take 201 r), length-take 201 r, long)) (omega (arith, length_without r, long))
  | inr short ↦ ap (λ (l : List ℕ). read_on script (record { place = place; good = n }) (without_return l)) (take_all 201 r short)
]

kept_more : (n : ℕ) (r : List ℕ) (byte : ℕ) → take n (take n r ++ byte ∷ []) ≡ take n (r ++ byte ∷ [])
kept_more n r byte = elim (cases_lt n (length r)) [
  | inl long ↦ take-append-le n (take n r) (byte ∷ []) (omega (arith, length-take n r, long))
      ∙ (take_all n (take n r) (omega (arith, length-take n r)) ∙ sym (take-append-le n r (byte ∷ []) (omega (arith, long))))
  | inr short ↦ ap (λ (l : List ℕ). take n (l ++ byte ∷ [])) (take_all n r short)
]

lines_piece : (r bytes : List ℕ) (byte : ℕ) → HasNone is_line_end r → is_line_end byte ≡ true → lines (r ++ byte ∷ bytes) ≡ without_return r ∷ lines bytes
unfolding lines
lines_piece r bytes byte none e = ap (map without_return) (cut_piece is_line_end r byte bytes none e)

lines_end : (byte : ℕ) (r : List ℕ) → HasNone is_line_end (byte ∷ r) → lines (byte ∷ r) ≡ without_return (byte ∷ r) ∷ []
unfolding lines
lines_end byte r none = ap (map without_return) (cut_last is_line_end byte r none)

no_lines : lines [] ≡ []
unfolding lines cut_at
no_lines = refl

none_push : (ends : ℕ → Bool) (r : List ℕ) (byte : ℕ) → HasNone ends r → ends byte ≡ false → HasNone ends (r ++ byte ∷ [])
none_push ends [] byte none e = (e, tt)
none_push ends (x ∷ r) byte none e = (none.0, none_push ends r byte none.1 e)

fed_so : (script : ScriptData) (bytes r : List ℕ) (place : Option Place) (n : ℕ) → IsScript script → IsShort script → IsSound script place → HasNone is_line_end r
    → ended script (fold (fed script) (record { reader = record { place = place; good = n }; rest = take 201 r }) bytes)
    ≡ verdict script (fold (read_on script) (record { place = place; good = n }) (lines (r ++ bytes)))
fed_so script [] [] place n is_script is_short sound none = sym (ap (λ (ls : List (List ℕ)). verdict script (fold (read_on script) (record { place = place; good = n }) ls)) no_lines)
fed_so script [] (x ∷ r) place n is_script is_short sound none =
    ap (verdict script) (alike script place n (x ∷ r) is_script is_short sound)
    ∙ sym (ap (λ (ls : List (List ℕ)). verdict script (fold (read_on script) (record { place = place; good = n }) ls))
    (ap lines (append-nil (x ∷ r)) ∙ lines_end x r none))
fed_so script (byte ∷ bytes) r place n is_script is_short sound none = elim (cases_Bool (is_line_end byte)) [
  | inl ends ↦
      let reader : Reader = record { place = place; good = n } in
      let next = read_on script reader (without_return r) in
      let kept : Feed = record { reader = reader; rest = take 201 r } in
      ap (λ (b : Bool). ended script (fold (fed script) (cond b (line_ended script kept) (record { reader = reader; rest = take 201 (take 201 r ++ byte ∷ []) })) bytes)) ends
      ∙ (ap (λ (now : Reader). ended script (fold (fed script) (record { reader = now; rest = [] }) bytes)) (alike script place n r is_script is_short sound)
      ∙ (fed_so script bytes [] next.place next.good is_script is_short (sound_on script place n (without_return r) sound) tt
      ∙ sym (ap (λ (ls : List (List ℕ)). verdict script (fold (read_on script) reader ls)) (lines_piece r bytes byte none ends))))
  | inr other ↦
      let reader : Reader = record { place = place; good = n } in
      let kept : Feed = record { reader = reader; rest = take 201 r } in
      ap (λ (b : Bool). ended script (fold (fed script) (cond b (line_ended script kept) (record { reader = reader; rest = take 201 (take 201 r ++ byte ∷ []) })) bytes)) other
      ∙ (ap (λ (now : List ℕ). ended script (fold (fed script) (record { reader = reader; rest = now }) bytes)) (kept_more 201 r byte)
      ∙ (fed_so script bytes (r ++ byte ∷ []) place n is_script is_short sound (none_push is_line_end r byte none other)
      ∙ ap (λ (all : List ℕ). verdict script (fold (read_on script) reader (lines all))) (append_assoc r (byte ∷ []) bytes)))
]

pub fed_all : (script : ScriptData) (bytes : List ℕ) → IsScript script → IsShort script → ended script (fed_piece script (new_feed script) bytes) ≡ checked script (lines bytes)
fed_all script bytes is_script is_short = fed_so script bytes [] (Some (first_place script)) 0 is_script is_short ([], first_begins script) tt

-- pieces are fed as their bytes
pub fed_pieces : (script : ScriptData) (pieces : List (List ℕ)) (feed : Feed) → fold (fed_piece script) feed pieces ≡ fed_piece script feed (flat_map (λ (piece : List ℕ). piece) pieces)
fed_pieces script [] feed = refl
fed_pieces script (piece ∷ pieces) feed =
    fed_pieces script pieces (fed_piece script feed piece) ∙ sym (fold-append (fed script) feed piece (flat_map (λ (piece : List ℕ). piece) pieces))

-- no more than 201 bytes are kept
kept_after : (script : ScriptData) (feed : Feed) (byte : ℕ) → length feed.rest ≤ 201 → length (fed script feed byte).rest ≤ 201
kept_after script feed byte few = elim (cases_Bool (is_line_end byte)) [
  | inl ends ↦ rw ends (omega arith)
  | inr other ↦ rw other (omega (arith, length-take 201 (feed.rest ++ byte ∷ [])))
]

pub kept_few : (script : ScriptData) (feed : Feed) (bytes : List ℕ) → length feed.rest ≤ 201 → length (fed_piece script feed bytes).rest ≤ 201
kept_few script feed [] few = few
kept_few script feed (byte ∷ bytes) few = kept_few script (fed script feed byte) bytes (kept_after script feed byte few)

-- What a line says is all that counts of it.

empty_bad : (script : ScriptData) → read_line script [] ≡ Bad
unfolding before_space later_fields
empty_bad script = refl

-- a line that says nothing is not how a line is written
not_written : (script : ScriptData) (line : List ℕ) (x : Line) → IsScript script → FitsLine script x → read_line script line ≡ Bad → bytes_eq line (written script x) ≡ false
not_written script line x is_script fits bad = false_from_ne_true (bytes_eq line (written script x)) (λ same.
    let back = line_back script x (named script is_script) (few_nodes script is_script) fits in
    let is_bad : x ≡ Bad = sym back ∙ (ap (read_line script) (sym ((bytes_eq-Decides line (written script x)).0 same)) ∙ bad) in
    subst (FitsLine script) is_bad fits)

same_test : (script : ScriptData) (line : List ℕ) (x : Line) → IsScript script → FitsLine script x → bytes_eq (written script (read_line script line)) (written script x) ≡ bytes_eq line (written script x)
same_test script line x is_script fits = by_case (as_written script line)
  where
    by_case : IsAsWritten script line (read_line script line) → bytes_eq (written script (read_line script line)) (written script x) ≡ bytes_eq line (written script x)
    by_case (inl bad) =
        ap (λ (said : Line). bytes_eq (written script said) (written script x)) bad
        ∙ (not_written script [] x is_script fits (empty_bad script) ∙ sym (not_written script line x is_script fits bad))
    by_case (inr same) = ap (λ (l : List ℕ). bytes_eq l (written script x)) same

pub due_fits : (script : ScriptData) (place : Place) → IsScript script → IsShort script → HasCome script place → AllByRecursion (FitsLine script) place.due
due_fits script place is_script is_short come =
    fit_right (FitsLine script) come.1.told place.due (subst (AllByRecursion (FitsLine script)) (sym come.1.parts) (all_so_far script come.0 place is_script is_short come.1))

-- what a line says is read again from how it is written
same_said : (script : ScriptData) (line : List ℕ) → read_line script (written script (read_line script line)) ≡ read_line script line
same_said script line = by_case (as_written script line)
  where
    by_case : IsAsWritten script line (read_line script line) → read_line script (written script (read_line script line)) ≡ read_line script line
    by_case (inl bad) = ap (λ (said : Line). read_line script (written script said)) bad ∙ (empty_bad script ∙ sym bad)
    by_case (inr same) = ap (read_line script) same

same_place : (script : ScriptData) (run : List Logged) (due : List Line) (line : List ℕ) → IsScript script → AllByRecursion (FitsLine script) due
    → by_due script run due (written script (read_line script line)) ≡ by_due script run due line
same_place script run [] line is_script fits = ap (by_move script run) (same_said script line)
same_place script run (x ∷ due) line is_script fits =
    ap (λ (b : Bool). cond b (Some (record { run = run; due = due })) None) (same_test script line x is_script fits.0)

-- a line is written as one that fits exactly where it says the same
pub reads_as : (script : ScriptData) (line : List ℕ) (x : Line) → IsScript script → FitsLine script x → Decides (bytes_eq line (written script x)) (read_line script line ≡ x)
reads_as script line x is_script fits = (
  λ same. ap (read_line script) ((bytes_eq-Decides line (written script x)).0 same) ∙ line_back script x (named script is_script) (few_nodes script is_script) fits,
  λ is. sym (same_test script line x is_script fits) ∙ (bytes_eq-Decides (written script (read_line script line)) (written script x)).1 (ap (written script) is),
)

-- after a line that is due, and after what says a next move, a reader has come to a place
pub come_due : (script : ScriptData) (run : List Logged) (x : Line) (due : List Line) → HasCome script (record { run = run; due = x ∷ due }) → HasCome script (record { run = run; due = due })
come_due script run x due come =
    (come.0 ++ written script x ∷ [], begins_after script come.0 (record { run = run; due = x ∷ due }) (written script x) (record { run = run; due = due }) come.1 (after_due script run x due))

pub come_moved : (script : ScriptData) (run : List Logged) (said : Line) (place : Place) → HasCome script (record { run = run; due = [] }) → by_move script run said ≡ Some place → HasCome script place
come_moved script run said place come e =
    (come.0 ++ written script said ∷ [], begins_moved script come.0 run (written script said) place come.1 (next_move script run (written script said) place said (λ some. refl) e))

-- once a line was bad, nothing counts
stays_bad : (script : ScriptData) (n : ℕ) (ls : List (List ℕ)) → fold (read_on script) (record { place = None; good = n }) (map (written script) (map (read_line script) ls)) ≡ fold (read_on script) (record { place = None; good = n }) ls
stays_bad script n [] = refl
stays_bad script n (line ∷ ls) = stays_bad script n ls

heard_all : (script : ScriptData) (ls : List (List ℕ)) (place : Place) (n : ℕ) → IsScript script → IsShort script → HasCome script place
    → fold (read_on script) (record { place = Some place; good = n }) (map (written script) (map (read_line script) ls)) ≡ fold (read_on script) (record { place = Some place; good = n }) ls
heard_all script [] place n is_script is_short come = refl
heard_all script (line ∷ ls) place n is_script is_short come =
    ap (λ (o : Option Place). fold (read_on script) (led_to (record { place = Some place; good = n }) o) (map (written script) (map (read_line script) ls)))
    (same_place script place.run place.due line is_script (due_fits script place is_script is_short come))
    ∙ by_next (place_after script place line) (sound_next script place line n (place_after script place line) come refl) (λ next m came. heard_all script ls next m is_script is_short came)
  where
    by_next : (next : Option Place) → IsSound script (led_to (record { place = Some place; good = n }) next).place
        → ((next : Place) (m : ℕ) → HasCome script next → fold (read_on script) (record { place = Some next; good = m }) (map (written script) (map (read_line script) ls)) ≡ fold (read_on script) (record { place = Some next; good = m }) ls)
        → fold (read_on script) (led_to (record { place = Some place; good = n }) next) (map (written script) (map (read_line script) ls)) ≡ fold (read_on script) (led_to (record { place = Some place; good = n }) next) ls
    by_next None sound again = stays_bad script n ls
    by_next (Some next) sound again = again next (suc n) sound

pub said : (script : ScriptData) (all : List (List ℕ)) → IsScript script → IsShort script → checked_said script (map (read_line script) all) ≡ checked script all
said script all is_script is_short = ap (verdict script) (heard_all script all (first_place script) 0 is_script is_short ([], first_begins script))

-- what is due at a place that a reader has come to
pub due_fits_after : (script : ScriptData) (read : List (List ℕ)) (place : Place) → IsScript script → IsShort script → (reader_after script read).place ≡ Some place → AllByRecursion (FitsLine script) place.due
due_fits_after script read place is_script is_short e =
    due_fits script place is_script is_short (read, begins_all script [] (first_place script) 0 read place (first_begins script) e)
