-- What it is that a client has ended, or holds another one up, in words of the world and of the lines.
use Rattle.std.specs.Prelude.{◌≡◌, ℕ, List, true, false, Contains, length}
use Rattle.lt_modes.specs.declared.event.Event.{Event}
use Rattle.lt_modes.specs.declared.mode.Mode.{Mode}
use Rattle.lt_modes.specs.Modes.{conflicts}
use Rattle.lt_modes.specs.Script.{ScriptData}
use Rattle.lt_spec.specs.Holdings.{Holding, holdings, WaitsFor, waits_for}
use Rattle.lt_spec.specs.NodeMove.{home, has_command}
use Rattle.lt_spec.specs.Promised.{HasEnded, HoldsUp, WaitInRing}
use Rattle.lt_spec.specs.Rings.{AreBelow, IsRing}
use Rattle.lt_spec.specs.World.{World, is_waiting}

-- a client that has ended waits for nothing
abbrev pub EndedIsIdle : Type 0
EndedIsIdle =
    (script : ScriptData) (w : World) (client : ℕ) → HasEnded script w client → is_waiting script w client ≡ false

-- and has no command left
abbrev pub EndedHasNone : Type 0
EndedHasNone =
    (script : ScriptData) (w : World) (client : ℕ) → HasEnded script w client
    → has_command script (w.node (home script client)) client ≡ false

-- one of which both are so has ended
abbrev pub IdleHasEnded : Type 0
IdleHasEnded =
    (script : ScriptData) (w : World) (client : ℕ) → is_waiting script w client ≡ false
    → has_command script (w.node (home script client)) client ≡ false → HasEnded script w client

-- who holds up another one holds, by the lines, a lock that conflicts with what that one waits for
abbrev pub HolderConflicts : Type 0
HolderConflicts =
    (script : ScriptData) (lines : List Event) (w : World) (waiter client : ℕ)
    → HoldsUp script lines w waiter client
    → (lock : Holding) × (mode : Mode) × Contains (holdings script lines) lock × (lock.client ≡ client)
    × WaitsFor script w waiter lock.set mode × (conflicts mode lock.mode ≡ true)

-- and who does so holds it up
abbrev pub ConflictHoldsUp : Type 0
ConflictHoldsUp =
    (script : ScriptData) (lines : List Event) (w : World) (waiter : ℕ) (lock : Holding) (mode : Mode)
    → Contains (holdings script lines) lock → WaitsFor script w waiter lock.set mode
    → conflicts mode lock.mode ≡ true → HoldsUp script lines w waiter lock.client

-- clients that wait in a ring are of the script
abbrev pub RingIsOfScript : Type 0
RingIsOfScript =
    (script : ScriptData) (w : World) → WaitInRing script w
    → (clients : List ℕ) × AreBelow (length script.clients) clients × IsRing (waits_for script w) clients
