-- What an answer says of the run that a command made, of any script.
use Rattle.std.specs.Prelude.{◌≡◌, ◌≢◌, ◌<◌, ◌≤◌, ◌++◌, ◌∷◌, [], Bool, true, false, ℕ, List, Option, Some, None, Ok, IfSome, codes, count_by, decimal, length, take, drop}
use Rattle.lt_modes.specs.Script.{ScriptData, client_name}
use Rattle.lt_spec.specs.FixedOrder.{Turn, pick, count_turns}
use Rattle.lt_spec.specs.Ordered.{first_bad}
use Rattle.lt_spec.specs.Promised.{Promised}
use Rattle.lt_spec.specs.Script.{IsScript, IsShort}
use Rattle.lt_spec.specs.World.{Logged, World, world_after, start, after, logged, is_at_rest, anyone_waits, full_node, IsRun, is_of_node, can_move}
use Rattle.lt_text.specs.Text.{lines}
use Rattle.lt_script.specs.Reading.{read_of}
use Rattle.lt_script.specs.Printing.{print_of}
use Rattle.lt_gen.specs.Generator.{script_of, seeded, draw_of}
use Rattle.lt_merge.specs.Merging.{AreRising}
use Rattle.lt_words.specs.declared.command.Command.{Command}
use Rattle.lt_words.specs.declared.command.Command.TheVariants.{Run, SimFirst, Sim, Check, Make, Soak, Order}
use Rattle.lt_tally.specs.Summary.{summary_of, summary_text}
use Rattle.lt_journal.specs.RunLines.{text_of, lines_text}
use Rattle.lt_journal.specs.declared.line.Line.TheVariants.{Cut as CutLine}
use Rattle.lt_journal.specs.Split.{input_parts}
use Rattle.lt_serve.specs.declared.schedule.Schedule.{Schedule}
use Rattle.lt_serve.specs.declared.schedule.Schedule.TheVariants.{First, Drawn}
use Rattle.lt_serve.specs.declared.status.Status.{Status}
use Rattle.lt_serve.specs.declared.status.Status.TheVariants.{Done, Stuck, Cut, WriteFault}
use Rattle.lt_serve.specs.Schedules.{AreInOrder, AreInOrderFrom}
use Rattle.lt_serve.specs.TopCall.{Did, greatest_script}

-- at rest with nobody waiting, or with somebody; or this node, the least such one, has made as many moves as it may and
-- has a further one
abbrev pub IsEndOf : ℕ → Status → ScriptData → List Logged → Type 0
IsEndOf moves Done script run =
    (is_at_rest script (world_after script run) ≡ true) × (anyone_waits script (world_after script run) ≡ false)
IsEndOf moves Stuck script run =
    (is_at_rest script (world_after script run) ≡ true) × (anyone_waits script (world_after script run) ≡ true)
IsEndOf moves (Cut node) script run = full_node script moves run ≡ Some node
IsEndOf moves other script run = ⊥

-- a run of the script by all rules that ended so, in which no node made more moves than it may, and what is promised
pub record RunSo (moves : ℕ) (ending : Status) (script : ScriptData) (run : List Logged) : Type 0 where
  pub is_script : IsScript script
  pub is_short : IsShort script
  pub is_run : IsRun script run
  pub within : (q : ℕ) → q < script.nodes → count_by (is_of_node q) run ≤ moves
  pub ends : IsEndOf moves ending script run
  pub promised : Promised script run

-- such a run of the script that the bytes denote, if they are known, of which this is so too, and its journal after
-- what the sink held
pub record AnyRun (also : ℕ → ScriptData → List Logged → Type 0) (moves : ℕ) (ending : Status) (node : Option ℕ)
    (left : Option (List ℕ)) (run : List Logged) (old new : List ℕ) : Type 0 where
  pub script : ScriptData
  pub denoted : IfSome left (λ bytes. read_of bytes ≡ Ok script)
  pub ran : RunSo moves ending script run
  pub also_so : also moves script run
  pub text : new ≡ old ++ text_of script run node

-- the same where a write failed: a first part of it
pub record PartRun (also : ℕ → ScriptData → List Logged → Type 0) (moves : ℕ) (left : Option (List ℕ))
    (run : List Logged) (old new : List ℕ) : Type 0 where
  pub script : ScriptData
  pub denoted : IfSome left (λ bytes. read_of bytes ≡ Ok script)
  pub ending : Status
  pub ran : RunSo moves ending script run
  pub also_so : also moves script run
  pub node : Option ℕ
  pub size : ℕ
  pub less : size < length (text_of script run node)
  pub text : new ≡ old ++ take size (text_of script run node)

-- what an answer to the command says, whatever the input was, and whatever the sink held
abbrev pub OfAnswer : Command → Status → (ℕ → Option (List ℕ) → List Logged → List ℕ → List ℕ → Type 0) → Type 0
OfAnswer command status fact =
    (moves : ℕ) (left : Option (List ℕ)) (run : List Logged) (old new : List ℕ)
    → Did moves (Some command) status left run (Some old) (Some new) → fact moves left run old new

pub record JournalSays (command : Command) (also : ℕ → ScriptData → List Logged → Type 0) : Type 0 where
  pub done : OfAnswer command Done (λ moves. AnyRun also moves Done None)
  pub stuck : OfAnswer command Stuck (λ moves. AnyRun also moves Stuck None)
  pub cut : (node : ℕ) → OfAnswer command (Cut node) (λ moves. AnyRun also moves (Cut node) (Some node))
  pub part : OfAnswer command WriteFault (PartRun also)

-- each move is the one whose place the schedule gives, and none was made once a node had made as many as it may
abbrev pub IsSimulated : Schedule → ℕ → ScriptData → List Logged → Type 0
IsSimulated schedule moves script run =
    AreInOrder schedule script run
    × ((k : ℕ) → k < length run → full_node script moves (take k run) ≡ None)

-- the moves are in the order of their stamps, and each node that can make a further one has made as many as it may
abbrev pub IsThreaded : ℕ → ScriptData → List Logged → Type 0
IsThreaded moves script run =
    AreRising run
    × ((q : ℕ) → q < script.nodes → can_move script (world_after script run) q ≡ true
    → count_by (is_of_node q) run ≡ moves)

pub record RunsSay : Type 0 where
  pub first : JournalSays SimFirst (IsSimulated First)
  pub drawn : (seed : ℕ) → JournalSays (Sim seed) (IsSimulated (Drawn (seeded seed)))
  pub threads : JournalSays Run IsThreaded

-- the place of the next move among so many, and the schedule after it: the first one, or the one that is drawn
abbrev pub place_by : Schedule → ℕ → ℕ × Schedule
place_by First count = (0, First)
place_by (Drawn numbers) count = ((draw_of count numbers).0, Drawn (draw_of count numbers).1)

-- what it is for moves to be in order: each one is the one at that place
pub record OrderRows : Type 0 where
  pub whole : (script : ScriptData) (schedule : Schedule) (run : List Logged) → AreInOrder schedule script run
      → AreInOrderFrom script (start script) schedule run
  pub next : (script : ScriptData) (w : World) (schedule : Schedule) (entry : Logged) (rest : List Logged)
      → AreInOrderFrom script w schedule (entry ∷ rest)
      → (turn : Turn) × (pick script w (place_by schedule (count_turns script w)).0 ≡ Some turn)
      × (entry ≡ logged script w turn.node turn.step)
  pub later : (script : ScriptData) (w : World) (schedule : Schedule) (entry : Logged) (rest : List Logged)
      → AreInOrderFrom script w schedule (entry ∷ rest)
      → AreInOrderFrom script (after script w entry.made.stamp.node entry.made.step)
      (place_by schedule (count_turns script w)).1 rest

-- such a run of the greatest script
pub record AnySoak (seed moves : ℕ) (ending : Status) (run : List Logged) : Type 0 where
  pub ran : RunSo moves ending (script_of 1 16 64 4096 seed) run
  pub threaded : IsThreaded moves (script_of 1 16 64 4096 seed) run

pub record SoaksSay : Type 0 where
  pub done : (seed : ℕ) → OfAnswer (Soak seed) Done (λ moves left run old new. AnySoak seed moves Done run
      × (new ≡ old ++ summary_text (summary_of (script_of 1 16 64 4096 seed) run)))
  pub stuck : (seed : ℕ) → OfAnswer (Soak seed) Stuck (λ moves left run old new. AnySoak seed moves Stuck run
      × (new ≡ old ++ summary_text (summary_of (script_of 1 16 64 4096 seed) run)))
  pub cut : (seed node : ℕ) → OfAnswer (Soak seed) (Cut node) (λ moves left run old new.
      AnySoak seed moves (Cut node) run × (new ≡ old ++ lines_text (script_of 1 16 64 4096 seed) (CutLine node ∷ [])))

-- a run that `check` accepts: its script and its journal are the input, if that is known, and it ended at rest
pub record AnyCheck (left : Option (List ℕ)) (run : List Logged) (old new : List ℕ) : Type 0 where
  pub script : ScriptData
  pub is_script : IsScript script
  pub is_short : IsShort script
  pub denoted : IfSome left (λ bytes. read_of (take (input_parts bytes).script bytes) ≡ Ok script)
  pub accepted : IfSome left (λ bytes. lines (drop (input_parts bytes).journal bytes) ≡ lines (text_of script run None))
  pub is_run : IsRun script run
  pub rest : is_at_rest script (world_after script run) ≡ true
  pub promised : Promised script run
  pub text : new ≡ old ++ (codes "ok " ++ decimal (length run) ++ codes "\n")

-- what `order` writes of the script that the bytes denote, if they are known
pub record AnyOrdering (left : Option (List ℕ)) (run : List Logged) (old new : List ℕ) : Type 0 where
  pub script : ScriptData
  pub denoted : IfSome left (λ bytes. read_of bytes ≡ Ok script)
  pub no_run : run ≡ []
  pub ordered : first_bad script ≡ None → new ≡ old ++ codes "ordered\n"
  pub not_ordered : (client : ℕ) → first_bad script ≡ Some client
      → new ≡ old ++ (codes "not ordered " ++ client_name script client ++ codes "\n")

pub record OthersSay : Type 0 where
  pub check : OfAnswer Check Done (λ moves. AnyCheck)
  pub order : OfAnswer Order Done (λ moves. AnyOrdering)
  pub make : (version nodes clients commands seed : ℕ) → OfAnswer (Make version nodes clients commands seed) Done
      (λ moves left run old new. (run ≡ []) × (new ≡ old ++ print_of (script_of version nodes clients commands seed)))
  -- they come to no other end
  pub check_stuck : OfAnswer Check Stuck (λ moves left run old new. ⊥)
  pub order_stuck : OfAnswer Order Stuck (λ moves left run old new. ⊥)
  pub check_cut : (node : ℕ) → OfAnswer Check (Cut node) (λ moves left run old new. ⊥)
  pub order_cut : (node : ℕ) → OfAnswer Order (Cut node) (λ moves left run old new. ⊥)
