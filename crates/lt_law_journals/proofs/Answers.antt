-- What is answered to an input, exactly.
use Rattle.std.proofs.Common.{◌≡◌, ℕ, ◌+◌, List, drop, Result, Ok, Err, refl, sym, ap, ap₂, ◌∙◌, ◌↔◌}
use Rattle.lt_modes.specs.Script.{ScriptData}
use Rattle.lt_spec.specs.World.{Logged}
use Rattle.lt_spec.specs.Script.{IsScript, IsShort}
use Rattle.lt_text.specs.Text.{lines}
use Rattle.lt_journal.specs.Split.{input_parts}
use Rattle.lt_law_journals.specs.Checking.{checked, counted_from, checked_input, IsFirstBadIn, IsFinished, journal_lines}
use Rattle.lt_law_journals.proofs.Accepting.{means, accepts}
use Rattle.lt_law_journals.proofs.Firsts.{first_bad, refused}
use Rattle.lt_law_journals.proofs.Inputs.{journal_part, lines_counted}

-- an input is answered as its parts are
by_parts : (script : ScriptData) (bytes : List ℕ)
    → checked_input script (lines bytes) ≡ counted_from (input_parts bytes).lines (checked script (lines (drop (input_parts bytes).journal bytes)))
by_parts script bytes = ap₂ (λ (n : ℕ) (all : List (List ℕ)). counted_from n (checked script all)) (sym (lines_counted bytes)) (sym (journal_part bytes))

uncounted : (before : ℕ) (answer : Result (List Logged) ℕ) (run : List Logged) → counted_from before answer ≡ Ok run → answer ≡ Ok run
uncounted before (Ok told) run e = e
uncounted before (Err k) run e = cc

-- an input is accepted exactly where the journal in it is that of a finished run
pub accepted_input : (script : ScriptData) (bytes : List ℕ) (run : List Logged) → IsScript script → IsShort script
    → (checked_input script (lines bytes) ≡ Ok run) ↔ (IsFinished script run × (lines (drop (input_parts bytes).journal bytes) ≡ journal_lines script run))
accepted_input script bytes run is_script is_short =
    let all = lines (drop (input_parts bytes).journal bytes) in (
      λ e. means script all run is_script is_short (uncounted (input_parts bytes).lines (checked script all) run (sym (by_parts script bytes) ∙ e)),
      λ told. by_parts script bytes ∙ ap (counted_from (input_parts bytes).lines) (ap (checked script) told.1 ∙ accepts script run is_script is_short told.0),
    )

-- where it is refused at a line, that is a line of the journal
counted_line : (before line : ℕ) (answer : Result (List Logged) ℕ) → counted_from before answer ≡ Err line
    → (k : ℕ) × (line ≡ before + k) × (answer ≡ Err k)
counted_line before line (Ok told) e = cc
counted_line before line (Err k) e =
    let same : before + k ≡ line = cc in
    (k, sym same, refl)

-- and refused exactly at its first bad line
pub refused_input : (script : ScriptData) (bytes : List ℕ) (line : ℕ) → IsScript script → IsShort script
    → (checked_input script (lines bytes) ≡ Err line) ↔ IsFirstBadIn script line bytes
refused_input script bytes line is_script is_short =
    let all = lines (drop (input_parts bytes).journal bytes) in (
      λ e.
          let told = counted_line (input_parts bytes).lines line (checked script all) (sym (by_parts script bytes) ∙ e) in
          (told.0, told.1, first_bad script all told.0 is_script is_short told.2),
      λ bad. by_parts script bytes ∙ (ap (counted_from (input_parts bytes).lines) (refused script all bad.0 is_script is_short bad.2) ∙ ap Err (sym bad.1)),
    )
