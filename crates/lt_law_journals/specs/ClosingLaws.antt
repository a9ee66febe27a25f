-- What the closing lines of a run at rest tell, as statements.
use Rattle.std.specs.Prelude.{◌≡◌, ◌↔◌, ◌<◌, ℕ, List, None, length, Contains}
use Rattle.lt_modes.specs.declared.mode.Mode.{Mode}
use Rattle.lt_modes.specs.declared.parts.Link.{Link}
use Rattle.lt_modes.specs.Script.{ScriptData}
use Rattle.lt_modes.specs.Modes.{count_of}
use Rattle.lt_spec.specs.NodeMove.{home, IsWhole}
use Rattle.lt_spec.specs.World.{Logged, world_after, IsRun}
use Rattle.lt_spec.specs.Facts.{state_at}
use Rattle.lt_spec.specs.Holdings.{WaitsFor}
use Rattle.lt_law_lines.specs.LineLaws.{IsLastMove}
use Rattle.lt_journal.specs.declared.line.Line.TheVariants.{Held, Waiting, Owner}
use Rattle.lt_journal.specs.RunLines.{closing_lines}

-- a `held` line stands there exactly where the client's node holds so many of these locks for it
abbrev pub HeldLinesTell : Type 0
HeldLinesTell = (script : ScriptData) (run : List Logged) → IsWhole script → IsRun script run → (client s : ℕ) (mode : Mode) (count : ℕ)
    → client < length script.clients → s < length script.sets
    → Contains (closing_lines script run None) (Held client s mode count)
    ↔ ((0 < count) × (count_of (state_at (world_after script run) s (home script client)).held client mode ≡ count))

-- a `waiting` line stands there exactly where an unanswered ask of the client wants the mode
abbrev pub WaitingLinesTell : Type 0
WaitingLinesTell = (script : ScriptData) (run : List Logged) → IsWhole script → IsRun script run → (client s : ℕ) (mode : Mode)
    → client < length script.clients → s < length script.sets
    → Contains (closing_lines script run None) (Waiting client s mode) ↔ WaitsFor script (world_after script run) client s mode

-- an `owner` line stands there exactly where it names the last move of the set's token
abbrev pub OwnerLinesTell : Type 0
OwnerLinesTell = (script : ScriptData) (run : List Logged) → IsWhole script → IsRun script run → (s : ℕ) (owner : Link) → s < length script.sets
    → Contains (closing_lines script run None) (Owner s owner.node owner.epoch) ↔ IsLastMove ((world_after script run).went s) owner
