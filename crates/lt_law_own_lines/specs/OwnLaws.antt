-- Whose lines moves and runs show, as laws.
use Rattle.std.specs.Prelude.{◌≡◌, ℕ, List, ◌++◌, filter, take, All, IsTrue}
use Rattle.std.specs.List.{AllByRecursion}
use Rattle.lt_modes.specs.declared.moves.Step.{Step}
use Rattle.lt_modes.specs.declared.event.Event.{Event}
use Rattle.lt_modes.specs.Script.{ScriptData}
use Rattle.lt_spec.specs.NodeMove.{home, IsWhole}
use Rattle.lt_spec.specs.Holdings.{lines_of}
use Rattle.lt_spec.specs.World.{Logged, World, is_enabled, is_of_node, node_move, IsRun, IsOwnLine, HasOwnLines, replies_of}
use Rattle.lt_model.specs.Homes.{Homes}

-- an enabled move of a node shows lines of its own clients alone
abbrev pub OwnLinesOfMoves : Type 0
OwnLinesOfMoves = (script : ScriptData) (w : World) → IsWhole script → Homes script w
    → (q : ℕ) (step : Step) → IsTrue (is_enabled script w q step) → AllByRecursion (IsOwnLine script q) (node_move script w q step).events

-- and so it is of each move of each run
abbrev pub OwnLinesInRuns : Type 0
OwnLinesInRuns = (script : ScriptData) (run : List Logged) → IsWhole script → IsRun script run → All (HasOwnLines script) run

-- the replies to a client in a run are those in the moves of its node
abbrev pub RepliesAtHome : Type 0
RepliesAtHome = (script : ScriptData) (run : List Logged) → IsWhole script → IsRun script run → (client : ℕ)
    → replies_of client (lines_of run) ≡ replies_of client (lines_of (filter (is_of_node (home script client)) run))

-- so where these entries are the log of its node, they are those in the log
abbrev pub RepliesOfLog : Type 0
RepliesOfLog = (script : ScriptData) (run log : List Logged) → IsWhole script → IsRun script run → (client : ℕ)
    → filter (is_of_node (home script client)) run ≡ log → replies_of client (lines_of run) ≡ replies_of client (lines_of log)

-- and so it is of the first moves of a run
abbrev pub RepliesSoFar : Type 0
RepliesSoFar = (script : ScriptData) (run : List Logged) → IsWhole script → IsRun script run → (client k : ℕ)
    → replies_of client (lines_of (take k run)) ≡ replies_of client (lines_of (filter (is_of_node (home script client)) (take k run)))

-- later lines add their replies at the end
abbrev pub RepliesGrow : Type 0
RepliesGrow = (client : ℕ) (lines later : List Event) → replies_of client (lines ++ later) ≡ replies_of client lines ++ replies_of client later
