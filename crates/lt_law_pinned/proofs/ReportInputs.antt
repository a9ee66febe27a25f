-- What the small inputs of reports say: their scripts, their runs and the reports of these.
use Rattle.std.proofs.Common.{◌≡◌, ◌∷◌, ℕ, List, [], Ok, Err, refl, ap, ap₂, ◌∙◌, Result, take, codes}
use Rattle.std.specs.Fmt.{digits}
use Rattle.lt_modes.specs.declared.mode.Mode.TheVariants.{Read, Write}
use Rattle.lt_modes.specs.declared.event.Event.TheVariants.{Grant, Wait}
use Rattle.lt_modes.specs.declared.command.Command.TheVariants.{Lock, Change}
use Rattle.lt_modes.specs.Modes.{conflicts}
use Rattle.lt_modes.specs.Script.{ScriptData}
use Rattle.lt_spec.specs.World.{Logged, world_after}
use Rattle.lt_spec.specs.Rings.{waits_report}
use Rattle.lt_text.specs.Text as text
use Rattle.lt_text.specs.Text.{lines}
use Rattle.lt_script.specs.Reading.{read_of}
use Rattle.lt_script.specs.Reading as reading
use Rattle.lt_journal.specs.Split as split
use Rattle.lt_journal.specs.Split.{input_parts}
use Rattle.lt_law_journals.specs.Checking.{checked, checked_input, counted_from, journal_in, lines_before}
use Rattle.lt_waits.specs.Serves.{waits_text}
use Rattle.lt_law_examples.specs.Worked.{declared_set, declared_client, act}
use Rattle.lt_law_pinned.specs.Reports.{void_script, void_moves, no_nodes_fault, writers_apart, writers_report, both_change, wrong_grant}

pub nothing_read : read_of (take (input_parts []).script []) ≡ Err no_nodes_fault
unfolding reading.script_body reading.read_from text.lines text.cut_at reading.line_step text.words split.after_first_line
nothing_read = refl

-- the scripts of the inputs, and their runs

abbrev pub apart_script : ScriptData
apart_script = record {
  version = 1;
  nodes = 2;
  sets = declared_set (codes "s") 0 ∷ [];
  clients = declared_client (codes "a") 0 ∷ declared_client (codes "b") 0 ∷ [];
  commands = (0, Lock 0 Write) ∷ (1, Lock 0 Write) ∷ [];
}

abbrev pub writer_moves : List Logged
writer_moves = act 1 0 0 (Grant 0 0 Write ∷ []) ∷ act 2 0 1 (Wait 1 0 Write ∷ []) ∷ []

abbrev pub change_script : ScriptData
change_script = record {
  version = 1;
  nodes = 1;
  sets = declared_set (codes "s") 0 ∷ [];
  clients = declared_client (codes "a") 0 ∷ declared_client (codes "b") 0 ∷ [];
  commands = (0, Lock 0 Read) ∷ (0, Change 0 Read Write) ∷ (1, Lock 0 Read) ∷ (1, Change 0 Read Write) ∷ [];
}

abbrev pub change_moves : List Logged
change_moves =
    act 1 0 0 (Grant 0 0 Read ∷ []) ∷ act 2 0 1 (Grant 1 0 Read ∷ []) ∷ act 3 0 0 (Wait 0 0 Write ∷ []) ∷ act 4 0 1 (Wait 1 0 Write ∷ []) ∷ []

-- what the bytes say: this script, of which the journal is answered so
pub record InputIs (bytes : List ℕ) (script : ScriptData) (answer : Result (List Logged) ℕ) : Type 0 where
  pub denoted : read_of (take (input_parts bytes).script bytes) ≡ Ok script
  pub answered : checked_input script (lines bytes) ≡ answer

-- so it is, where the lines behind the script are these and answered so
input_is : (bytes : List ℕ) (script : ScriptData) (before : ℕ) (journal : List (List ℕ)) (answer : Result (List Logged) ℕ) → read_of (take (input_parts bytes).script bytes) ≡ Ok script
    → lines_before (lines bytes) ≡ before → journal_in (lines bytes) ≡ journal → checked script journal ≡ answer → InputIs bytes script (counted_from before answer)
input_is bytes script before journal answer denoted count same answered = record {
  denoted = denoted;
  answered = ap₂ (λ (n : ℕ) (all : List (List ℕ)). counted_from n (checked script all)) count same ∙ ap (counted_from before) answered;
}

abbrev apart_lines : List (List ℕ)
apart_lines = codes "move 1 0 act a" ∷ codes "grant a s write" ∷ codes "move 2 0 act b" ∷ codes "wait b s write" ∷ codes "held a s write 1" ∷ codes "waiting b s write" ∷ codes "owner s 0 0" ∷ codes "end 2" ∷ []

apart_journal : journal_in (lines writers_apart) ≡ apart_lines
unfolding text.lines text.cut_at text.words
apart_journal = refl

apart_count : lines_before (lines writers_apart) ≡ 7
unfolding text.lines text.cut_at text.words
apart_count = refl

apart_checked : checked apart_script apart_lines ≡ Ok writer_moves
unfolding conflicts text.cut_at text.lines text.words text.later_fields text.before_space digits
apart_checked = refl

apart_denoted : read_of (take (input_parts writers_apart).script writers_apart) ≡ Ok apart_script
unfolding reading.script_body reading.read_from text.lines text.cut_at reading.line_step text.words split.after_first_line
apart_denoted = refl

pub apart_is : InputIs writers_apart apart_script (Ok writer_moves)
apart_is = input_is writers_apart apart_script 7 apart_lines (Ok writer_moves) apart_denoted apart_count apart_journal apart_checked

abbrev change_lines : List (List ℕ)
change_lines = codes "move 1 0 act a" ∷ codes "grant a s read" ∷ codes "move 2 0 act b" ∷ codes "grant b s read" ∷ codes "move 3 0 act a" ∷ codes "wait a s write" ∷ codes "move 4 0 act b" ∷ codes "wait b s write" ∷ codes "held a s read 1" ∷ codes "held b s read 1" ∷ codes "waiting a s write" ∷ codes "waiting b s write" ∷ codes "owner s 0 0" ∷ codes "end 4" ∷ []

change_journal : journal_in (lines both_change) ≡ change_lines
unfolding text.lines text.cut_at text.words
change_journal = refl

change_count : lines_before (lines both_change) ≡ 9
unfolding text.lines text.cut_at text.words
change_count = refl

change_checked : checked change_script change_lines ≡ Ok change_moves
unfolding conflicts text.cut_at text.lines text.words text.later_fields text.before_space digits
change_checked = refl

change_denoted : read_of (take (input_parts both_change).script both_change) ≡ Ok change_script
unfolding reading.script_body reading.read_from text.lines text.cut_at reading.line_step text.words split.after_first_line
change_denoted = refl

pub change_is : InputIs both_change change_script (Ok change_moves)
change_is = input_is both_change change_script 9 change_lines (Ok change_moves) change_denoted change_count change_journal change_checked

abbrev wrong_lines : List (List ℕ)
wrong_lines = codes "move 1 0 act a" ∷ codes "grant a s read" ∷ []

wrong_journal : journal_in (lines wrong_grant) ≡ wrong_lines
unfolding text.lines text.cut_at text.words
wrong_journal = refl

wrong_count : lines_before (lines wrong_grant) ≡ 7
unfolding text.lines text.cut_at text.words
wrong_count = refl

wrong_checked : checked apart_script wrong_lines ≡ Err 2
unfolding conflicts text.cut_at text.lines text.words text.later_fields text.before_space digits
wrong_checked = refl

wrong_denoted : read_of (take (input_parts wrong_grant).script wrong_grant) ≡ Ok apart_script
unfolding reading.script_body reading.read_from text.lines text.cut_at reading.line_step text.words split.after_first_line
wrong_denoted = refl

pub wrong_is : InputIs wrong_grant apart_script (Err 9)
wrong_is = input_is wrong_grant apart_script 7 wrong_lines (Err 2) wrong_denoted wrong_count wrong_journal wrong_checked

-- their reports

pub apart_text : waits_text apart_script (waits_report apart_script (world_after apart_script writer_moves)) ≡ writers_report
unfolding conflicts
apart_text = refl

pub change_text : waits_text change_script (waits_report change_script (world_after change_script change_moves)) ≡ codes "waits a b\nwaits b a\ncycle a b\n"
unfolding conflicts
change_text = refl

pub void_is_told : waits_text void_script (waits_report void_script (world_after void_script void_moves)) ≡ codes "no cycle\nvoid c b\n"
unfolding conflicts
void_is_told = refl
