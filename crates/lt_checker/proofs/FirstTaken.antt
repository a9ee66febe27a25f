-- A line that is the one that is due has no line end in it and is short, so bytes that begin with it are cut after it.
use Rattle.std.proofs.Common.{◌≡◌, ◌∙◌, ℕ, zero, suc, ◌-◌, ◌<◌, Bool, true, false, List, [], ◌∷◌, ◌++◌, length, take, drop, ◌==◌, append_assoc, take-append-drop, ap₂, eqb-true, get_or, refl, sym, ap, subst, arith, flat_map, lt-ltb, take_all, length-append, bytes_eq}
use Rattle.std.specs.List.{AllByRecursion}
use Rattle.std.proofs.lemmas.Slice.Eq.{bytes_eq-Decides}
use Rattle.lt_modes.specs.Script.{ScriptData}
use Rattle.lt_spec.specs.Script.{IsScript}
use Rattle.lt_spec.specs.World.{Logged}
use Rattle.lt_text.specs.Text.{after_space, spaced, is_line_end, without_return, HasNone}
use Rattle.lt_journal.specs.declared.line.Line.{Line}
use Rattle.lt_journal.specs.LineFits.{FitsLine}
use Rattle.lt_journal.specs.RunLines.{line_words}
use Rattle.lt_journal.proofs.Plain.{ArePlain}
use Rattle.lt_journal.proofs.Written.{named, few_nodes, plain_line, line_back}
use Rattle.lt_law_journals.specs.Checking.{Reader, written, read_on, by_move, by_due, place_after, fed_piece}
use Rattle.lt_law_journals.proofs.Accepting.{fit_right}
use Rattle.lt_law_journals.proofs.Feeds.{all_so_far}
use Rattle.lt_law_journals.proofs.Short.{short_line}
use Rattle.lt_world.specs.Fields.{WorldData}
use Rattle.lt_checker.specs.Checker.{IsPlace, LedTo}
use Rattle.lt_checker.specs.First.{BeginsWithLine, IsFedTo}
use Rattle.lt_checker.proofs.Pieces.{fed_line}
use Rattle.lt_checker.proofs.DueLines.{led_by_due}

none_both : (ends : ℕ → Bool) (front back : List ℕ) → HasNone ends front → HasNone ends back → HasNone ends (front ++ back)
none_both ends [] back f b = b
none_both ends (byte ∷ front) back f b = (f.0, none_both ends front back f.1 b)

none_later : (ends : ℕ → Bool) (words : List (List ℕ)) → ends 32 ≡ false → AllByRecursion (HasNone ends) words → HasNone ends (flat_map after_space words)
none_later ends [] e none = tt
none_later ends (word ∷ words) e none = (e, none_both ends word (flat_map after_space words) none.0 (none_later ends words e none.1))

none_in : (ends : ℕ → Bool) (words : List (List ℕ)) → ends 32 ≡ false → AllByRecursion (HasNone ends) words → HasNone ends (spaced words)
none_in ends [] e none = tt
none_in ends (word ∷ words) e none = none_both ends word (flat_map after_space words) none.0 (none_later ends words e none.1)

abbrev is_return : ℕ → Bool
is_return byte = byte == 13

ends_of : (words : List (List ℕ)) → ArePlain words → AllByRecursion (HasNone is_line_end) words
ends_of [] all = tt
ends_of (word ∷ words) all = (all.0.no_line_end, ends_of words all.1)

returns_of : (words : List (List ℕ)) → ArePlain words → AllByRecursion (HasNone is_return) words
returns_of [] all = tt
returns_of (word ∷ words) all = (all.0.no_return, returns_of words all.1)

none_at : (ends : ℕ → Bool) (bytes : List ℕ) (k : ℕ) → HasNone ends bytes → k < length bytes → ends (get_or bytes k 0) ≡ false
none_at ends [] k none inside = absurd (omega (arith, inside))
none_at ends (byte ∷ bytes) zero none inside = none.0
none_at ends (byte ∷ bytes) (suc k) none inside = none_at ends bytes k none.1 (omega (arith, inside))

stays_whole : (bytes : List ℕ) → HasNone is_return bytes → without_return bytes ≡ bytes
stays_whole [] none = refl
stays_whole (byte ∷ bytes) none =
    let last = none_at is_return (byte ∷ bytes) (length (byte ∷ bytes) - 1) none (omega arith) in
    rw (lt-ltb 0 (length (byte ∷ bytes)) (omega arith), last)

-- what is written of a line that fits is a line that can be good
pub begins_written : (script : ScriptData) (bytes later : List ℕ) (x : Line) → IsScript script → FitsLine script x → bytes ≡ written script x ++ 10 ∷ later
    → BeginsWithLine bytes (written script x) later
begins_written script bytes later x is_script fits parts =
    let all = plain_line script x (named script is_script) (few_nodes script is_script) fits in
    record {
      parts = parts;
      is_line = (
        none_in is_line_end (line_words script x) refl (ends_of (line_words script x) all),
        stays_whole (written script x) (none_in is_return (line_words script x) refl (returns_of (line_words script x) all)),
      );
      short = omega (arith, short_line script x is_script fits);
    }

-- each line that is due can be written
due_fits : (script : ScriptData) (world : WorldData) (x : Line) (due : List Line) → IsPlace script world (x ∷ due) → FitsLine script x
due_fits script world x due place =
    let begins = place.come.1 in
    let all = all_so_far script place.come.0 (record { run = world.run; due = x ∷ due }) place.is_script place.is_short begins in
    (fit_right (FitsLine script) begins.told (x ∷ due) (subst (AllByRecursion (FitsLine script)) (sym begins.parts) all)).0

pub begins_due : (script : ScriptData) (world : WorldData) (all due : List Line) (x : Line) (bytes later : List ℕ) → all ≡ x ∷ due → IsPlace script world all
    → bytes ≡ written script x ++ 10 ∷ later → BeginsWithLine bytes (written script x) later
begins_due script world all due x bytes later is place parts =
    let at : IsPlace script world (x ∷ due) = subst (IsPlace script world) is place in
    begins_written script bytes later x place.is_script (due_fits script world x due at) parts

-- the line that is due is good
pub led_as_due : (script : ScriptData) (run : List Logged) (all due : List Line) (x : Line) → all ≡ x ∷ due
    → LedTo (place_after script (record { run = run; due = all }) (written script x)) true run due
led_as_due script run all due x parts =
    led_by_due script run all due x (written script x) true parts (sym ((bytes_eq-Decides (written script x) (written script x)).1 refl))

-- where none is due, a line that says this is one of a next move or bad
pub led_as_move : (script : ScriptData) (run next : List Logged) (all due : List Line) (x : Line) (good : Bool) → IsScript script → FitsLine script x → all ≡ []
    → LedTo (by_move script run x) good next due → LedTo (place_after script (record { run = run; due = all }) (written script x)) good next due
led_as_move script run next all due x good is_script fits none led =
    subst (λ (d : List Line). LedTo (by_due script run d (written script x)) good next due) (sym none)
    (subst (λ (y : Line). LedTo (by_move script run y) good next due) (sym (line_back script x (named script is_script) (few_nodes script is_script) fits)) led)

-- a line end is among the bytes
pub some_end : (bytes line later : List ℕ) → BeginsWithLine bytes line later → HasNone is_line_end bytes → ⊥
some_end bytes line later begins none = in_back line (subst (HasNone is_line_end) begins.parts none)
  where
    in_back : (front : List ℕ) → HasNone is_line_end (front ++ 10 ∷ later) → ⊥
    in_back [] all = let e : true ≡ false = all.0 in absurd (cc)
    in_back (x ∷ front) all = in_back front all.1

-- the first line is fed where it is taken
pub fed_first : (script : ScriptData) (old new : Reader) (rest bytes line later : List ℕ) → rest ≡ [] → BeginsWithLine bytes line later → new ≡ read_on script old line
    → IsFedTo script (record { reader = old; rest = rest }) bytes later (record { reader = new; rest = rest })
fed_first script old new rest bytes line later none begins is = record {
  shorter = omega (arith, ap (λ (b : List ℕ). length b) begins.parts, length-append line (10 ∷ later));
  ends = some_end bytes line later begins;
  fed = let cut : take 201 ([] ++ line) ≡ line = take_all 201 line begins.short in
      let read : new ≡ read_on script old (without_return (take 201 ([] ++ line))) =
      is ∙ ap (read_on script old) (sym (ap without_return cut ∙ begins.is_line.1)) in
      ap (λ (r : List ℕ). fed_piece script (record { reader = new; rest = r }) later) none
      ∙ (ap (λ (r : Reader). fed_piece script (record { reader = r; rest = [] }) later) read
      ∙ (sym (fed_line script old [] line later (omega arith) begins.is_line.0)
      ∙ (ap (fed_piece script (record { reader = old; rest = [] })) (sym begins.parts)
      ∙ ap (λ (r : List ℕ). fed_piece script (record { reader = old; rest = r }) bytes) (sym none))));
}

-- the bytes are a text of one line, and then these
pub text_parts : (bytes first text line later : List ℕ) (n : ℕ) → text ≡ line ++ 10 ∷ [] → bytes_eq first text ≡ true → first ≡ take n bytes → later ≡ drop n bytes
    → bytes ≡ line ++ 10 ∷ later
text_parts bytes first text line later n text_is same front back =
    let whole : first ≡ line ++ 10 ∷ [] = (bytes_eq-Decides first text).0 same ∙ text_is in
    sym (take-append-drop n bytes)
    ∙ (ap₂ (λ (f b : List ℕ). f ++ b) (sym front ∙ whole) (sym back) ∙ append_assoc line (10 ∷ []) later)

pub no_bytes : (rest : List ℕ) → (length rest == 0) ≡ true → rest ≡ []
no_bytes [] e = refl
no_bytes (byte ∷ rest) e = let none = eqb-true (length (byte ∷ rest)) 0 e in absurd (omega (arith, none))
