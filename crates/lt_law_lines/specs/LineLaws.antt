-- What the lines of a run tell, as statements.
use Rattle.std.specs.Prelude.{◌≡◌, ◌↔◌, ◌<◌, ◌+◌, ℕ, List, length, take, slice_index, IsTrue}
use Rattle.lt_modes.specs.declared.mode.Mode.{Mode}
use Rattle.lt_modes.specs.declared.ask.Ask.{Ask}
use Rattle.lt_modes.specs.declared.parts.Link.{Link}
use Rattle.lt_modes.specs.Script.{ScriptData}
use Rattle.lt_modes.specs.Modes.{count_of}
use Rattle.lt_spec.specs.NodeMove.{home, IsWhole}
use Rattle.lt_spec.specs.Holdings.{holding, holdings, owner_of, lines_of, IsLawful, times_held, WaitsFor, IsBarredByLines, HasOpenWait}
use Rattle.lt_spec.specs.World.{Logged, world_after, IsRun, is_at_rest}
use Rattle.lt_spec.specs.Facts.{state_at, IsFirstWaiter}
use Rattle.lt_model.specs.Invariant.{LinesKept}

-- the lines of each prefix of each run tell what is held and who waits
abbrev pub LinesKeptInRuns : Type 0
LinesKeptInRuns = (script : ScriptData) (run : List Logged) → IsWhole script → IsRun script run → (k : ℕ)
    → LinesKept script (lines_of (take k run)) (world_after script (take k run))

-- a lock is held after the lines as often as its client's node holds it
abbrev pub LinesTellHeld : Type 0
LinesTellHeld = (script : ScriptData) (run : List Logged) → IsWhole script → IsRun script run → (k client s : ℕ) (mode : Mode)
    → client < length script.clients → s < length script.sets
    → times_held (holdings script (lines_of (take k run))) (holding client s mode)
    ≡ count_of (state_at (world_after script (take k run)) s (home script client)).held client mode

-- and locks of different clients don't conflict
abbrev pub HoldingsAreLawful : Type 0
HoldingsAreLawful = (script : ScriptData) (run : List Logged) → IsWhole script → IsRun script run → (k : ℕ)
    → IsLawful (holdings script (lines_of (take k run)))

-- a client has such a line exactly where an unanswered ask of it wants the mode
abbrev pub LinesTellWaits : Type 0
LinesTellWaits = (script : ScriptData) (run : List Logged) → IsWhole script → IsRun script run → (k client s : ℕ) (mode : Mode)
    → client < length script.clients → s < length script.sets
    → HasOpenWait client s mode (lines_of (take k run)) ↔ WaitsFor script (world_after script (take k run)) client s mode

-- the link names the last move of a token that had these nodes, node 0 first: how many moves there were, and to which node
abbrev pub IsLastMove : List ℕ → Link → Type 0
IsLastMove went link = (link.epoch + 1 ≡ length went) × (slice_index went link.epoch ≡ link.node)

-- the owner of a set after the lines is that of the last move of its token
abbrev pub LinesTellOwners : Type 0
LinesTellOwners = (script : ScriptData) (run : List Logged) → IsWhole script → IsRun script run → (k s : ℕ) → s < length script.sets
    → IsLastMove ((world_after script (take k run)).went s) (owner_of s (lines_of (take k run)))

-- at rest the first waiter of a set conflicts with a lock that another client holds by the lines
abbrev pub FirstWaiterByLines : Type 0
FirstWaiterByLines = (script : ScriptData) (run : List Logged) → IsWhole script → IsRun script run → (k s : ℕ) (ask : Ask)
    → s < length script.sets → IsTrue (is_at_rest script (world_after script (take k run)))
    → IsFirstWaiter script (world_after script (take k run)) s ask → IsBarredByLines script (lines_of (take k run)) s ask
