-- What a line tells of a client that waits for another one, as a statement.
use Rattle.std.specs.Prelude.{◌≡◌, ◌<◌, ◌⊎◌, ℕ, List, Some, length, IsTrue, IsFalse}
use Rattle.lt_modes.specs.Script.{ScriptData}
use Rattle.lt_spec.specs.Holdings.{Holding, lines_of, waits_for, waits_behind, waits_behind_void, gave_up, WaitsFor}
use Rattle.lt_spec.specs.World.{Logged, world_after, IsRun}
use Rattle.lt_spec.specs.NodeMove.{IsWhole}
use Rattle.lt_waits.specs.Reasons.{is_barred, want_of}

-- what the client wants is what an unanswered ask of it wants; and the other one holds a lock that conflicts with it,
-- or the ask stands behind one of the other one in the queue, or is parked behind it, and that one wasn't given up
pub record IsTrueEdge (script : ScriptData) (run : List Logged) (client other : ℕ) : Type 0 where
  pub want : Holding
  pub want_is : want_of script (lines_of run) client ≡ Some want
  pub asks : WaitsFor script (world_after script run) client want.set want.mode
  pub kept : IsTrue (is_barred script (lines_of run) (Some want) other)
      ⊎ (IsTrue (waits_behind script (world_after script run) want.set other client)
      × IsFalse (gave_up script (world_after script run) want.set other))

-- of each two clients of which the first waits for the second, after any run
abbrev pub EdgesAreTold : Type 0
EdgesAreTold = (script : ScriptData) (run : List Logged) → IsWhole script → IsRun script run → (client other : ℕ)
    → client < length script.clients → other < length script.clients
    → IsTrue (waits_for script (world_after script run) client other) → IsTrueEdge script run client other

-- what the client wants is what an unanswered ask of it wants; and the ask stands behind one of the other one in the
-- queue, or is parked behind it, which was given up
pub record IsVoidEdge (script : ScriptData) (run : List Logged) (client other : ℕ) : Type 0 where
  pub want : Holding
  pub want_is : want_of script (lines_of run) client ≡ Some want
  pub asks : WaitsFor script (world_after script run) client want.set want.mode
  pub behind : IsTrue (waits_behind script (world_after script run) want.set other client)
  pub void : IsTrue (gave_up script (world_after script run) want.set other)

-- of each two clients of which the first waits behind a void ask of the second, after any run
abbrev pub VoidEdgesAreTold : Type 0
VoidEdgesAreTold = (script : ScriptData) (run : List Logged) → IsWhole script → IsRun script run → (client other : ℕ)
    → client < length script.clients
    → IsTrue (waits_behind_void script (world_after script run) client other) → IsVoidEdge script run client other
