-- What reading a line comes to, step by step, and what is found out of a command's line.
use Rattle.std.specs.Prelude.{◌≡◌, ℕ, ◌<◌, ◌==◌, Bool, true, not, ◌||◌, List, [], ◌∷◌, length, Option, Some, None, is_none, Result, Ok, Err, codes, nat_le, slice_index, IsTrue, bytes_eq}
use Rattle.std.specs.List.{AllByRecursion, list_all}
use Rattle.lt_modes.specs.declared.mode.Mode.{Mode}
use Rattle.lt_modes.specs.declared.command.Command.{Command}
use Rattle.lt_modes.specs.Modes.{mode_of}
use Rattle.lt_modes.specs.FiveModes.{is_of_version}
use Rattle.lt_modes.specs.Script.{ScriptData, home_at}
use Rattle.lt_script.specs.declared.fault.Fault.{Fault}
use Rattle.lt_script.specs.declared.fault.Fault.TheVariants as faults
use Rattle.lt_spec.specs.declared.limits.TheConstants.{MAX_COMMANDS}
use Rattle.lt_spec.specs.Script.{set_number, client_number, IsRequest, IsOfVersion}
use Rattle.lt_script.specs.Forms.{FormData, form_in}
use Rattle.lt_script.specs.Faults.{declared, is_plain_byte, first_true, form_fault, mode_in, home_by, after_form, command_added}
use Rattle.lt_script.specs.Reading.{unless, ReadsLine}

-- the first word of a line makes it a comment
abbrev pub begins_comment : List ℕ → Bool
begins_comment word = slice_index word 0 == 35

-- the first word of a line makes it none of a command
abbrev pub begins_declaration : List ℕ → Bool
begins_declaration word =
    bytes_eq word (codes "version") || bytes_eq word (codes "nodes") || bytes_eq word (codes "set") || bytes_eq word (codes "client")

-- a byte of a line, or a line feed
abbrev pub is_text_byte : ℕ → Bool
is_text_byte byte = is_plain_byte byte || byte == 10

abbrev pub is_plain_line : List ℕ → Bool
is_plain_line line = list_all is_plain_byte line

-- the lines have plain bytes alone
abbrev pub ArePlain : List (List ℕ) → Type 0
ArePlain lines = AllByRecursion (λ line. is_plain_line line ≡ true) lines

-- the script after a line of this form, or the line's first fault
abbrev pub form_step : ℕ → Option ScriptData → FormData → Result (Option ScriptData) Fault
form_step version st form = unless (form_fault version st form) (Some (after_form (declared version st) form))

-- the same of a line that may have no form
abbrev pub step_by_form : ℕ → Option ScriptData → Option FormData → Result (Option ScriptData) Fault
step_by_form version st None = Err faults.Form
step_by_form version st (Some form) = form_step version st form

-- the same of a line with these words
abbrev pub words_step : ℕ → Option ScriptData → List (List ℕ) → Result (Option ScriptData) Fault
words_step version st words = step_by_form version st (form_in (declared version st).version words)

-- what reading a line of this form gives: its fault, or the script after it
abbrev pub ReadsForm : Option Fault → ScriptData → ScriptData → FormData → Type 0
ReadsForm fault before after form = ReadsLine fault (Some after) (form_step before.version (Some before) form)

-- the same of a line with these words
abbrev pub ReadsWords : Option Fault → ScriptData → ScriptData → List (List ℕ) → Type 0
ReadsWords fault before after words = ReadsLine fault (Some after) (words_step before.version (Some before) words)

-- what is found out of a command's line of this form: the client and the command, which the script may have as its next ones,
-- or the line's first fault
abbrev pub Resolves : ScriptData → FormData → Result (ℕ × Command) Fault → Type 0
Resolves s form (Ok request) =
    (form_fault s.version (Some s) form ≡ None)
    × (after_form s form ≡ command_added s request.0 request.1)
    × (length s.commands < MAX_COMMANDS)
    × IsRequest s.sets s.clients request
    × IsOfVersion s.version request.1
Resolves s form (Err fault) = form_fault s.version (Some s) form ≡ Some fault

-- the set and the mode with these names, or the first fault of a command that names them
abbrev pub FindsSetAndMode : ScriptData → List ℕ → List ℕ → Result (ℕ × Mode) Fault → Type 0
FindsSetAndMode s set mode (Ok found) =
    (set_number s set ≡ Some found.0)
    × (found.0 < length s.sets)
    × (length s.commands < MAX_COMMANDS)
    × (mode_in s.version mode ≡ Some found.1)
    × (mode_of mode ≡ Some found.1)
    × IsTrue (is_of_version s.version found.1)
FindsSetAndMode s set mode (Err fault) =
    first_true ((is_none (set_number s set), faults.Unknown) ∷ (nat_le MAX_COMMANDS (length s.commands), faults.Limit) ∷ (is_none (mode_in s.version mode), faults.Mode) ∷ [])
    ≡ Some fault

-- the numbers of the client and the set with these names, where that client is on the node of this one, or the first fault of a
-- command that names them
abbrev pub FindsNeighbour : ScriptData → ℕ → List ℕ → List ℕ → Result (ℕ × ℕ) Fault → Type 0
FindsNeighbour s client other set (Ok found) =
    (client_number s other ≡ Some found.0)
    × (found.0 < length s.clients)
    × (set_number s set ≡ Some found.1)
    × (found.1 < length s.sets)
    × (length s.commands < MAX_COMMANDS)
    × (home_at s.clients found.0 ≡ home_at s.clients client)
FindsNeighbour s client other set (Err fault) =
    first_true (
    (is_none (client_number s other) || is_none (set_number s set), faults.Unknown)
    ∷ (nat_le MAX_COMMANDS (length s.commands), faults.Limit)
    ∷ (not (home_by s (client_number s other) == home_at s.clients client), faults.Node)
    ∷ []
    )
    ≡ Some fault
