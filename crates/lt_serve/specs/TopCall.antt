-- What each answer of the top call means.
use Rattle.std.specs.Prelude.{◌≡◌, ℕ, List, [], ◌∷◌, ◌++◌, ◌≤◌, Option, Some, None, length, codes, decimal}
use Rattle.std.specs.Io.KnownBytes.{Appends}
use Rattle.lt_io.specs.Streams.{AppendsPart, Pace, WritesByFewest, StopsByFewest}
use Rattle.lt_call.specs.Scripts.{Denotes}
use Rattle.lt_modes.specs.Script.{ScriptData, client_name}
use Rattle.lt_spec.specs.World.{Logged}
use Rattle.lt_merge.specs.Merging.{AreRising}
use Rattle.lt_journal.specs.RunLines.{text_of, lines_text}
use Rattle.lt_journal.specs.declared.line.Line.TheVariants.{Cut as CutLine}
use Rattle.lt_law_journals.specs.Checking.{IsFinished}
use Rattle.lt_spec.specs.Promised.{Promised}
use Rattle.lt_checker.specs.Input.{DenotesBefore, IsJournalOf}
use Rattle.lt_gen.specs.Generator.{script_of, seeded}
use Rattle.lt_spec.specs.Script.{IsScript, IsShort}
use Rattle.lt_spec.specs.Ordered.{first_bad}
use Rattle.lt_tally.specs.Summary.{summary_of, summary_text}
use Rattle.lt_script.specs.Printing.{print_of}
use Rattle.lt_words.specs.declared.command.Command.{Command}
use Rattle.lt_words.specs.declared.command.Command.TheVariants.{Run, SimFirst, Sim, Check, Make, Soak, Order}
use Rattle.lt_serve.specs.declared.status.Status.{Status}
use Rattle.lt_serve.specs.declared.status.Status.TheVariants.{Done, Stuck, WriteFault, Cut}
use Rattle.lt_threads.specs.Threads.{GoesFar}
use Rattle.lt_serve.specs.Endings.{RanTo, StopsInTime, cut_of}
use Rattle.lt_serve.specs.declared.schedule.Schedule.{Schedule}
use Rattle.lt_serve.specs.declared.schedule.Schedule.TheVariants.{First, Drawn}
use Rattle.lt_serve.specs.Schedules.{AreInOrder}

-- a run of the script that the bytes denote, which ended so, and its journal
pub record Journals (moves : ℕ) (ending : Status) (left : Option (List ℕ)) (run : List Logged) (text : List ℕ) : Type 0 where
  pub script : ScriptData
  pub denoted : Denotes left script
  pub ran : RanTo moves ending script run
  pub journal : text ≡ text_of script run (cut_of ending)

-- the same, each move the one that the schedule gives
pub record JournalsInOrder (schedule : Schedule) (moves : ℕ) (ending : Status) (left : Option (List ℕ)) (run : List Logged) (text : List ℕ) : Type 0 where
  pub journals : Journals moves ending left run text
  pub in_order : AreInOrder schedule journals.script run
  pub in_time : StopsInTime moves journals.script run

-- the same, its moves in the order of their stamps, and each node that could make a further one has made as many as
-- it may
pub record JournalsThreads (moves : ℕ) (ending : Status) (left : Option (List ℕ)) (run : List Logged) (text : List ℕ) : Type 0 where
  pub journals : Journals moves ending left run text
  pub rising : AreRising run
  pub far : GoesFar moves journals.script run

-- the greatest script of version 1, made from the seed: 16 nodes, 64 clients and 4,096 commands
abbrev pub greatest_script : ℕ → ScriptData
greatest_script seed = script_of 1 16 64 4096 seed

-- the line `cut NODE` where the run was cut, or else the six lines of what it came to
abbrev pub soak_text : ScriptData → List Logged → Option ℕ → List ℕ
soak_text script run (Some node) = lines_text script (CutLine node ∷ [])
soak_text script run None = summary_text (summary_of script run)

-- a run of the greatest script, which ended so and went as far, its moves in the order of their stamps, and what it
-- came to
pub record Soaks (seed moves : ℕ) (ending : Status) (run : List Logged) (text : List ℕ) : Type 0 where
  pub ran : RanTo moves ending (greatest_script seed) run
  pub rising : AreRising run
  pub far : GoesFar moves (greatest_script seed) run
  pub told : text ≡ soak_text (greatest_script seed) run (cut_of ending)

-- the script, and no run
abbrev pub Prints : ScriptData → Status → List Logged → List ℕ → Type 0
Prints script ending run text = (ending ≡ Done) × (run ≡ []) × (text ≡ print_of script)

-- the input is a script and the journal of a run of it that ended at rest, which is the answer's, and `ok` with the
-- number of its moves is written
pub record Checks (ending : Status) (left : Option (List ℕ)) (run : List Logged) (text : List ℕ) : Type 0 where
  pub done : ending ≡ Done
  pub script : ScriptData
  pub is_script : IsScript script
  pub is_short : IsShort script
  pub denoted : DenotesBefore left script
  pub accepted : IsJournalOf left script run
  pub finished : IsFinished script run
  pub promised : Promised script run
  pub counted : text ≡ codes "ok " ++ decimal (length run) ++ codes "\n"

-- `ordered`, or `not ordered` and this client
abbrev pub order_answer : ScriptData → Option ℕ → List ℕ
order_answer script None = codes "ordered\n"
order_answer script (Some client) = codes "not ordered " ++ client_name script client ++ codes "\n"

-- the script that the bytes denote, of which it is written whether it is ordered, or which client is the first that
-- isn't in order; and no run
pub record TellsOrder (ending : Status) (left : Option (List ℕ)) (run : List Logged) (text : List ℕ) : Type 0 where
  pub done : ending ≡ Done
  pub no_run : run ≡ []
  pub script : ScriptData
  pub denoted : Denotes left script
  pub told : text ≡ order_answer script (first_bad script)

-- what a command did that ended so: its run, and the text that is to be written
abbrev pub JournalsBy : ℕ → Command → Status → Option (List ℕ) → List Logged → List ℕ → Type 0
JournalsBy moves SimFirst ending left run text = JournalsInOrder First moves ending left run text
JournalsBy moves (Sim seed) ending left run text = JournalsInOrder (Drawn (seeded seed)) moves ending left run text
JournalsBy moves (Make version nodes clients commands seed) ending left run text = Prints (script_of version nodes clients commands seed) ending run text
JournalsBy moves Check ending left run text = Checks ending left run text
JournalsBy moves Run ending left run text = JournalsThreads moves ending left run text
JournalsBy moves (Soak seed) ending left run text = Soaks seed moves ending run text
JournalsBy moves Order ending left run text = TellsOrder ending left run text

-- it ended so, and its whole text was appended
abbrev pub WroteAll : ℕ → Command → Status → Option (List ℕ) → List Logged → Option (List ℕ) → Option (List ℕ) → Type 0
WroteAll moves command ending left run old new = (text : List ℕ) × JournalsBy moves command ending left run text × Appends old new text

-- it ended in some way, and a first part of its text was appended
abbrev pub WrotePart : ℕ → Command → Option (List ℕ) → List Logged → Option (List ℕ) → Option (List ℕ) → Type 0
WrotePart moves command left run old new =
    (ending : Status) × (text : List ℕ) × JournalsBy moves command ending left run text × AppendsPart old new text

-- what the status says of a command: of the run, and of what the sink held before and after. With any other status it
-- gives no run, and nothing was written
abbrev pub DidOf : ℕ → Command → Status → Option (List ℕ) → List Logged → Option (List ℕ) → Option (List ℕ) → Type 0
DidOf moves command Done left run old new = WroteAll moves command Done left run old new
DidOf moves command Stuck left run old new = WroteAll moves command Stuck left run old new
DidOf moves command (Cut node) left run old new = WroteAll moves command (Cut node) left run old new
DidOf moves command WriteFault left run old new = WrotePart moves command left run old new
DidOf moves command other left run old new = (run ≡ []) × (new ≡ old)

-- the same where the words are this command, or none
abbrev pub Did : ℕ → Option Command → Status → Option (List ℕ) → List Logged → Option (List ℕ) → Option (List ℕ) → Type 0
Did moves None status left run old new = (run ≡ []) × (new ≡ old)
Did moves (Some command) status left run old new = DidOf moves command status left run old new

-- That each write was given all of the text that was not written yet.

-- the text of what the command did, which ended so, was appended by as few writes as can be
abbrev pub WroteByFewest : ℕ → Option Command → Status → Option (List ℕ) → List Logged → Option (List ℕ)
    → Option (List ℕ) → Option Pace → Option Pace → Type 0
WroteByFewest moves None ending left run old new pace pace_new = ⊥
WroteByFewest moves (Some command) ending left run old new pace pace_new =
    (text : List ℕ) × JournalsBy moves command ending left run text × Appends old new text
    × WritesByFewest pace pace_new (length text)

-- a first part of its text was, and one write more failed
abbrev pub StoppedByFewest : ℕ → Option Command → Option (List ℕ) → List Logged → Option (List ℕ) → Option (List ℕ)
    → Option Pace → Option Pace → Type 0
StoppedByFewest moves None left run old new pace pace_new = ⊥
StoppedByFewest moves (Some command) left run old new pace pace_new =
    (ending : Status) × (text : List ℕ) × JournalsBy moves command ending left run text
    × StopsByFewest pace pace_new old new text
