-- What the lines of a report tell of the clients that wait at the end of a run.
use Rattle.std.specs.Prelude.{◌≡◌, ◌≢◌, ◌⊎◌, ◌↔◌, ◌<◌, ◌==◌, ◌++◌, ◌∷◌, [], ℕ, List, length, Contains, IsTrue, if◌then◌else◌, map, filter, codes, ◌+◌, ◌*◌, Bool, false, slice_index_or, Option, flat_map}
use Rattle.std.specs.List.{IsDistinct}
use Rattle.lt_modes.specs.Script.{ScriptData, client_name}
use Rattle.lt_spec.specs.Holdings.{lines_of, waits_for, waits_behind_void}
use Rattle.lt_spec.specs.World.{Logged, world_after, is_waiting, IsUnmarked}
use Rattle.lt_spec.specs.Rings.{AreBelow, IsRing, CycleLine, EndsLine, VoidLine, waits_lines, void_lines, report, waits_report, Graph, numbers_below, walk_end, waits_for_some, ReportLine, WaitsLine, NoCycleLine}
use Rattle.lt_spec.specs.Promised.{HasEnded, HoldsUp, WaitInRing}
use Rattle.lt_io.specs.Streams.{SourceState, Pace}
use Rattle.lt_text.specs.Text.{spaced, text}
use Rattle.lt_law_journals.specs.Checking.{IsFinished}
use Rattle.lt_checker.specs.declared.limits.TheConstants.{MAX_JOURNAL}
use Rattle.lt_checker.specs.Input.{DenotesBefore, HasFaultBefore, IsJournalOf, IsBad, WantsMemory}
use Rattle.lt_call.specs.Calls.{Serves}
use Rattle.lt_waits.specs.declared.answer.Answer.{Answer}
use Rattle.lt_waits.specs.declared.edge.Edge.{Edge}
use Rattle.lt_waits.specs.declared.answer.Answer.TheVariants.{Refused, BadJournal}
use Rattle.lt_waits.specs.Answers.{outcome_of}
use Rattle.lt_waits.specs.Why.{NamesRing, void_text, why_text}

-- the report at the end of the run tells why each client waits, where no ask is given up
pub record ExplainsUnmarked (script : ScriptData) (run : List Logged) : Type 0 where
  -- each client that waits waits for some client
  pub some : (client : ℕ) → client < length script.clients → IsTrue (is_waiting script (world_after script run) client)
      → (other : ℕ) × (other < length script.clients) × IsTrue (waits_for script (world_after script run) client other)
  -- of a line `ends` the first client waits, and the second has ended and holds a lock against a client that waits
  pub ends : (client last : ℕ) → Contains (waits_report script (world_after script run)) (EndsLine client last)
      → IsTrue (is_waiting script (world_after script run) client) × HasEnded script (world_after script run) last
      × (waiter : ℕ) × (waiter < length script.clients) × HoldsUp script (lines_of run) (world_after script run) waiter last
  -- if no clients wait in a ring, each client that waits has its line `ends`
  pub all : (client : ℕ) → client < length script.clients → (WaitInRing script (world_after script run) → ⊥)
      → IsTrue (is_waiting script (world_after script run) client)
      → (last : ℕ) × Contains (waits_report script (world_after script run)) (EndsLine client last)
  -- there is no line `void`
  pub no_void : waits_report script (world_after script run) ≡ report (length script.clients) (waits_for script (world_after script run))

-- the report at the end of the run tells why each client waits
pub record Explains (script : ScriptData) (run : List Logged) : Type 0 where
  -- each client that waits waits for some client, or behind a void ask of some client
  pub some : (client : ℕ) → client < length script.clients → IsTrue (is_waiting script (world_after script run) client)
      → (other : ℕ) × (other < length script.clients) × (IsTrue (waits_for script (world_after script run) client other)
      ⊎ IsTrue (waits_behind_void script (world_after script run) client other))
  -- a line `cycle` names clients that wait in a ring, none of them twice
  pub cycles : (ring : List ℕ) → Contains (waits_report script (world_after script run)) (CycleLine ring)
      → AreBelow (length script.clients) ring × IsRing (waits_for script (world_after script run)) ring × IsDistinct (λ a b. a == b) ring
  -- if some clients wait in a ring, one such line follows the lines `waits`, and the lines `void` follow it
  pub rings : WaitInRing script (world_after script run)
      → (ring : List ℕ) × (waits_report script (world_after script run)
      ≡ (waits_lines (length script.clients) (waits_for script (world_after script run)) ++ CycleLine ring ∷ [])
      ++ void_lines (length script.clients) (waits_behind_void script (world_after script run)))
  -- of a line `ends` the first client waits, and the second has a line `void`, or has ended and holds a lock against
  -- a client that waits
  pub ends : (client last : ℕ) → Contains (waits_report script (world_after script run)) (EndsLine client last)
      → IsTrue (is_waiting script (world_after script run) client)
      × (((other : ℕ) × Contains (waits_report script (world_after script run)) (VoidLine last other))
      ⊎ (HasEnded script (world_after script run) last
      × (waiter : ℕ) × (waiter < length script.clients) × HoldsUp script (lines_of run) (world_after script run) waiter last))
  -- if no clients wait in a ring, each client that waits has its line `ends`, or a line `void`
  pub all : (client : ℕ) → client < length script.clients → (WaitInRing script (world_after script run) → ⊥)
      → IsTrue (is_waiting script (world_after script run) client)
      → (other : ℕ) × (Contains (waits_report script (world_after script run)) (EndsLine client other)
      ⊎ Contains (waits_report script (world_after script run)) (VoidLine client other))
  -- the lines `void` are those of each client with each client behind whose void ask it waits
  pub voids : (client other : ℕ) → Contains (waits_report script (world_after script run)) (VoidLine client other)
      ↔ ((client < length script.clients) × (other < length script.clients)
      × IsTrue (waits_behind_void script (world_after script run) client other))
  -- all is as without void asks where there are none
  pub unmarked : IsUnmarked (world_after script run) → ExplainsUnmarked script run
  -- and so it is in versions 1 and 2
  pub old : script.version ≢ 3 → ExplainsUnmarked script run

-- The text of a report of who waits for whom.

-- the words of a line of the report
abbrev pub report_words : ScriptData → ReportLine → List (List ℕ)
report_words script (WaitsLine client other) = codes "waits" ∷ client_name script client ∷ client_name script other ∷ []
report_words script (CycleLine clients) = codes "cycle" ∷ map (client_name script) clients
report_words script NoCycleLine = codes "no" ∷ codes "cycle" ∷ []
report_words script (EndsLine client last) = codes "ends" ∷ client_name script client ∷ client_name script last ∷ []
report_words script (VoidLine client other) = codes "void" ∷ client_name script client ∷ client_name script other ∷ []

-- the text of these lines
abbrev pub waits_text : ScriptData → List ReportLine → List ℕ
waits_text script lines = text (map (λ line. spaced (report_words script line)) lines)

-- the line of two clients, if the first waits for the second
abbrev pub waits_line : Graph → ℕ → ℕ → List ReportLine
waits_line graph client other = if graph client other then WaitsLine client other ∷ [] else []

-- the lines of a client with each client for which it waits
abbrev pub waits_lines_of : ℕ → Graph → ℕ → List ReportLine
waits_lines_of n graph client = map (WaitsLine client) (filter (graph client) (numbers_below n))

-- the line of a client that waits behind a void ask of another one
abbrev pub void_line_of : Edge → ReportLine
void_line_of e = VoidLine e.client e.other

-- the line of the end of a client's walk, if the client waits
abbrev pub ends_line : ℕ → Graph → ℕ → List ReportLine
ends_line n graph client = if waits_for_some n graph client then EndsLine client (walk_end n graph client) ∷ [] else []

-- What contracts see of a graph of who waits for whom.

-- the number of clients, and a mark for each pair: those of the first client with each client in order, and so on
pub record GraphData : Type 0 where
  pub clients : ℕ
  pub pairs : List Bool

-- whether the first client waits for the second
abbrev pub graph_of : GraphData → Graph
graph_of g c d = slice_index_or g.pairs (c * g.clients + d) false

-- the graph tells of each two of its clients whether the first waits for the second
abbrev pub Tells : GraphData → Graph → Type 0
Tells g graph = (c d : ℕ) → c < g.clients → d < g.clients → graph_of g c d ≡ graph c d

-- the marks of the first k of n clients, each with each of the n: whether the first waits for the second
abbrev pub marks : ℕ → Graph → ℕ → List Bool
marks n graph k = flat_map (λ c. map (graph c) (numbers_below n)) (numbers_below k)

-- All that the top call says of an answer: what was written, why the answer comes, and what it says of the source and
-- the sink.

-- the input is a script and the journal of a run of it that ended at rest, and this tells who waits for whom at its
-- end, and why
pub record IsReportOf (left : Option (List ℕ)) (text : List ℕ) : Type 0 where
  pub script : ScriptData
  pub run : List Logged
  pub denoted : DenotesBefore left script
  pub accepted : IsJournalOf left script run
  pub finished : IsFinished script run
  pub explained : Explains script run
  pub told : text ≡ waits_text script (waits_report script (world_after script run))

-- the input is a script and the journal of a run of it that ended at rest, and this says why clients wait at its end
pub record IsWhyOf (left : Option (List ℕ)) (text : List ℕ) : Type 0 where
  pub script : ScriptData
  pub run : List Logged
  pub denoted : DenotesBefore left script
  pub accepted : IsJournalOf left script run
  pub finished : IsFinished script run
  pub ring : Option (List ℕ)
  pub names : NamesRing script run ring
  pub told : text ≡ why_text script run ring
  -- in versions 1 and 2 nobody waits behind a void ask
  pub old : script.version ≢ 3 → void_text script run ≡ []

-- if the bytes are known, the lines before the journal have this first fault, or this line of the journal is the
-- first bad one
abbrev pub IsUnfit : Option (List ℕ) → Answer → Type 0
IsUnfit left (Refused fault) = HasFaultBefore left fault
IsUnfit left (BadJournal line) = IsBad left line
IsUnfit left other = ⊥

-- the answer to so many words that aren't the word `why`; and the source and the sink before and after, with what they
-- tell of themselves
abbrev pub ServesReport : {S K : Type 0} → (S → SourceState) → (K → Option (List ℕ)) → (K → ℕ) → (K → Option Pace)
    → ℕ → Answer → S → S → K → K → Type 0
ServesReport state held write_faults pace words answer before after sink sink_after =
    Serves outcome_of IsReportOf IsUnfit WantsMemory MAX_JOURNAL state held write_faults pace words answer
    before after sink sink_after

-- the answer to the word `why`; and the source and the sink before and after, with what they tell of themselves
abbrev pub ServesWhy : {S K : Type 0} → (S → SourceState) → (K → Option (List ℕ)) → (K → ℕ) → (K → Option Pace)
    → Answer → S → S → K → K → Type 0
ServesWhy state held write_faults pace answer before after sink sink_after =
    Serves outcome_of IsWhyOf IsUnfit WantsMemory MAX_JOURNAL state held write_faults pace 0 answer
    before after sink sink_after
