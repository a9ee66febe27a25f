-- Who waits, in the words of the lines of a run, as statements.
use Rattle.std.specs.Prelude.{◌≡◌, ◌↔◌, true, ℕ, List, take}
use Rattle.lt_modes.specs.Script.{ScriptData}
use Rattle.lt_spec.specs.Holdings.{lines_of, HasWaiter}
use Rattle.lt_spec.specs.World.{Logged, world_after, IsRun, anyone_waits}
use Rattle.lt_spec.specs.NodeMove.{IsWhole}
use Rattle.lt_spec.specs.Promised.{Promised}

-- some client waits exactly where the lines say so
abbrev pub SomebodyWaits : Type 0
SomebodyWaits = (script : ScriptData) (run : List Logged) → IsWhole script → IsRun script run → (k : ℕ)
    → (anyone_waits script (world_after script (take k run)) ≡ true) ↔ HasWaiter script (lines_of (take k run))

-- every run keeps it
abbrev pub RunsKeepPromises : Type 0
RunsKeepPromises = (script : ScriptData) (run : List Logged) → IsWhole script → IsRun script run → Promised script run
