-- What an answer of the program that reports who waits for whom says, for small inputs; its exit statuses and texts.
use Rattle.std.specs.Prelude.{◌≡◌, ◌≢◌, ◌⊎◌, ◌↔◌, ◌<◌, ◌==◌, ◌++◌, ◌∷◌, [], ℕ, List, Contains, IsTrue, length, codes}
use Rattle.std.specs.List.{IsDistinct}
use Rattle.lt_modes.specs.declared.mode.Mode.TheVariants.{Read, Write}
use Rattle.lt_modes.specs.declared.command.Command.TheVariants.{Lock, Withdraw}
use Rattle.lt_modes.specs.Script.{ScriptData}
use Rattle.lt_io.specs.Streams.{SourceState}
use Rattle.lt_call.specs.Outcomes.{exit_code}
use Rattle.lt_script.specs.declared.fault.Fault.TheVariants as faults
use Rattle.lt_script.specs.declared.fault.ScriptFault.{ScriptFault}
use Rattle.lt_spec.specs.Promised.{HasEnded, HoldsUp, WaitInRing}
use Rattle.lt_spec.specs.Holdings.{lines_of, waits_for, waits_behind_void}
use Rattle.lt_spec.specs.World.{Logged, World, world_after, is_at_rest, is_waiting, IsRun, IsUnmarked}
use Rattle.lt_spec.specs.Rings.{CycleLine, EndsLine, VoidLine, waits_lines, void_lines, report, waits_report, AreBelow, IsRing}
use Rattle.lt_spec.specs.FixedOrder.{first_run}
use Rattle.lt_checker.specs.declared.limits.TheConstants.{MAX_JOURNAL}
use Rattle.lt_waits.specs.declared.answer.Answer.{Answer}
use Rattle.lt_waits.specs.declared.answer.Answer.TheVariants.{Done, Usage, Refused, TooLong, ReadFault, WriteFault, NoMemory, BadJournal}
use Rattle.lt_waits.specs.Answers.{outcome_of, answer_text}
use Rattle.lt_waits.specs.Serves.{waits_text, ServesReport}
use Rattle.lt_law_examples.specs.Worked.{declared_set, declared_client}
use Rattle.lt_law_pinned.specs.PlainCalls.{SinkTells, PlainCall, AnswersSo, SinkHolds, IsPartWritten}

-- the fault of a script of nothing
abbrev pub no_nodes_fault : ScriptFault
no_nodes_fault = record { line = 1; fault = faults.Nodes }

pub record ReportCodesAre : Type 0 where
  pub done : exit_code (outcome_of Done) ≡ 0
  pub usage : exit_code (outcome_of Usage) ≡ 1
  pub refused : exit_code (outcome_of (Refused no_nodes_fault)) ≡ 2
  pub too_long : exit_code (outcome_of TooLong) ≡ 2
  pub read_fault : exit_code (outcome_of ReadFault) ≡ 4
  pub write_fault : exit_code (outcome_of WriteFault) ≡ 5
  pub no_memory : exit_code (outcome_of NoMemory) ≡ 6
  pub bad_journal : exit_code (outcome_of (BadJournal 7)) ≡ 8
  pub input : MAX_JOURNAL ≡ 67108864

pub record ReportTextsAre : Type 0 where
  pub done : answer_text Done ≡ []
  pub usage : answer_text Usage ≡ codes "lockwaits: usage: lockwaits"
  pub refused : answer_text (Refused no_nodes_fault) ≡ codes "lockwaits: line 1: S5"
  pub too_long : answer_text TooLong ≡ codes "lockwaits: input too long"
  pub read_fault : answer_text ReadFault ≡ codes "lockwaits: read fault"
  pub write_fault : answer_text WriteFault ≡ codes "lockwaits: write fault"
  pub no_memory : answer_text NoMemory ≡ codes "lockwaits: no memory"
  pub bad_journal : answer_text (BadJournal 7) ≡ codes "lockwaits: line 7: journal"

-- the top call gives it
abbrev pub IsReportCall : PlainCall Answer → Type 0
IsReportCall c =
    ServesReport (λ (s : SourceState). s) (λ (k : SinkTells). k.held) (λ (k : SinkTells). k.faults)
    (λ (k : SinkTells). k.pace) c.words c.answer c.source c.source_after c.sink c.sink_after

-- it answers so where the input is these bytes
abbrev pub Answered : List ℕ → Answer → PlainCall Answer → Type 0
Answered = AnswersSo IsReportCall outcome_of

-- two clients of the first of two nodes take a lock that only one may hold, and the journal of their run
abbrev pub writers_apart : List ℕ
writers_apart =
    codes "nodes 2\nset s\nclient a at 0\nclient b at 0\na lock s write\nb lock s write\njournal\n"
    ++ codes "move 1 0 act a\ngrant a s write\nmove 2 0 act b\nwait b s write\n"
    ++ codes "held a s write 1\nwaiting b s write\nowner s 0 0\nend 2\n"

abbrev pub writers_report : List ℕ
writers_report = codes "waits b a\nno cycle\nends b a\n"

-- two clients of one node read, and then each changes to write
abbrev pub both_change : List ℕ
both_change =
    codes "nodes 1\nset s\nclient a at 0\nclient b at 0\n"
    ++ codes "a lock s read\na change s read write\nb lock s read\nb change s read write\njournal\n"
    ++ codes "move 1 0 act a\ngrant a s read\nmove 2 0 act b\ngrant b s read\n"
    ++ codes "move 3 0 act a\nwait a s write\nmove 4 0 act b\nwait b s write\n"
    ++ codes "held a s read 1\nheld b s read 1\nwaiting a s write\nwaiting b s write\nowner s 0 0\nend 4\n"

-- the second line of the journal, the ninth of the input, grants another mode
abbrev pub wrong_grant : List ℕ
wrong_grant =
    codes "nodes 2\nset s\nclient a at 0\nclient b at 0\na lock s write\nb lock s write\njournal\n"
    ++ codes "move 1 0 act a\ngrant a s read\n"

-- a client reads; another one at another node asks to write, and gives that up; a third one there asks to read
abbrev pub void_script : ScriptData
void_script = record {
  version = 3;
  nodes = 2;
  sets = declared_set (codes "s") 0 ∷ [];
  clients =
      declared_client (codes "a") 0 ∷
      declared_client (codes "b") 1 ∷
      declared_client (codes "c") 1 ∷
      [];
  commands = (0, Lock 0 Read) ∷ (1, Lock 0 Write) ∷ (2, Lock 0 Read) ∷ (1, Withdraw 1 0) ∷ [];
}

-- its run in the fixed order
abbrev pub void_moves : List Logged
void_moves = first_run void_script 12

-- where the report of this input is done, this text was appended
abbrev pub Reports : List ℕ → List ℕ → Type 0
Reports input text =
    (c : PlainCall Answer) (old new : List ℕ) → Answered input Done c → SinkHolds old new c → new ≡ old ++ text

-- the same where no ask is given up
pub record ReportTellsUnmarked (script : ScriptData) (run : List Logged) (w : World) : Type 0 where
  -- each client that waits waits for some client
  pub some : (client : ℕ) → client < length script.clients → IsTrue (is_waiting script w client)
      → (other : ℕ) × (other < length script.clients) × IsTrue (waits_for script w client other)
  -- a line `ends` names a client that waits, and one that has ended and holds up one that waits
  pub ends : (client last : ℕ) → Contains (waits_report script w) (EndsLine client last)
      → IsTrue (is_waiting script w client) × HasEnded script w last
      × (waiter : ℕ) × (waiter < length script.clients) × HoldsUp script (lines_of run) w waiter last
  -- if no clients wait in a ring, each client that waits has such a line
  pub all : (client : ℕ) → client < length script.clients → (WaitInRing script w → ⊥)
      → IsTrue (is_waiting script w client)
      → (last : ℕ) × Contains (waits_report script w) (EndsLine client last)
  -- there is no line `void`
  pub no_void : waits_report script w ≡ report (length script.clients) (waits_for script w)

-- what the report at the end of a run of some script tells of the world in which it ended at rest
pub record ReportTells (script : ScriptData) (run : List Logged) (w : World) : Type 0 where
  -- each client that waits waits for some client, or behind a void ask
  pub some : (client : ℕ) → client < length script.clients → IsTrue (is_waiting script w client)
      → (other : ℕ) × (other < length script.clients)
      × (IsTrue (waits_for script w client other) ⊎ IsTrue (waits_behind_void script w client other))
  -- a line `cycle` is a ring, and names no client twice
  pub cycles : (ring : List ℕ) → Contains (waits_report script w) (CycleLine ring)
      → AreBelow (length script.clients) ring × IsRing (waits_for script w) ring × IsDistinct (λ a b. a == b) ring
  -- if some clients wait in a ring, one such line is the last before the lines `void`
  pub rings : WaitInRing script w
      → (ring : List ℕ)
      × (waits_report script w ≡ (waits_lines (length script.clients) (waits_for script w) ++ CycleLine ring ∷ [])
      ++ void_lines (length script.clients) (waits_behind_void script w))
  -- a line `ends` names a client that waits, and one with a line `void`, or one that has ended and holds up one that
  -- waits
  pub ends : (client last : ℕ) → Contains (waits_report script w) (EndsLine client last)
      → IsTrue (is_waiting script w client)
      × (((other : ℕ) × Contains (waits_report script w) (VoidLine last other))
      ⊎ (HasEnded script w last
      × (waiter : ℕ) × (waiter < length script.clients) × HoldsUp script (lines_of run) w waiter last))
  -- if no clients wait in a ring, each client that waits has such a line, or a line `void`
  pub all : (client : ℕ) → client < length script.clients → (WaitInRing script w → ⊥)
      → IsTrue (is_waiting script w client)
      → (other : ℕ) × (Contains (waits_report script w) (EndsLine client other)
      ⊎ Contains (waits_report script w) (VoidLine client other))
  -- the lines `void` tell who waits behind void asks
  pub voids : (client other : ℕ) → Contains (waits_report script w) (VoidLine client other)
      ↔ ((client < length script.clients) × (other < length script.clients)
      × IsTrue (waits_behind_void script w client other))
  pub unmarked : IsUnmarked w → ReportTellsUnmarked script run w
  pub old : script.version ≢ 3 → ReportTellsUnmarked script run w

-- a run that ended at rest, and its report was appended
pub record ReportedRun (script : ScriptData) (run : List Logged) (old new : List ℕ) : Type 0 where
  pub is_run : IsRun script run
  pub at_rest : IsTrue (is_at_rest script (world_after script run))
  pub told : new ≡ old ++ waits_text script (waits_report script (world_after script run))
  pub tells : ReportTells script run (world_after script run)

pub record ReportsTold : Type 0 where
  pub ends_text : Reports writers_apart writers_report
  pub cycle_text : Reports both_change (codes "waits a b\nwaits b a\ncycle a b\n")
  pub void_text : waits_text void_script (waits_report void_script (world_after void_script void_moves))
      ≡ codes "no cycle\nvoid c b\n"
  pub part : (c : PlainCall Answer) (old new : List ℕ) → Answered writers_apart WriteFault c → SinkHolds old new c
      → IsPartWritten writers_report old new
  -- why there is no report
  pub bad : (c : PlainCall Answer) (line : ℕ) → Answered wrong_grant (BadJournal line) c → line ≡ 9
  pub never_bad : (c : PlainCall Answer) (line : ℕ) → Answered writers_apart (BadJournal line) c → ⊥
  pub never_done : (c : PlainCall Answer) → Answered wrong_grant Done c → ⊥
  pub fault : (c : PlainCall Answer) (fault : ScriptFault) → Answered [] (Refused fault) c → fault ≡ no_nodes_fault
  pub never_refused : (c : PlainCall Answer) (fault : ScriptFault) → Answered writers_apart (Refused fault) c → ⊥
  -- where the input isn't known, the run is one of some script
  pub unknown : (c : PlainCall Answer) (old new : List ℕ) → IsReportCall c → c.answer ≡ Done → SinkHolds old new c
      → (script : ScriptData) × (run : List Logged) × ReportedRun script run old new
