-- Runs without a command that gives up a wait, as laws.
use Rattle.std.specs.Prelude.{ℕ, List, take, All}
use Rattle.std.specs.List.{AllByRecursion}
use Rattle.lt_modes.specs.declared.command.Command.{Command}
use Rattle.lt_modes.specs.declared.command.Command.TheVariants.{Lock, Unlock, Try, Change, DropAll, Withdraw}
use Rattle.lt_modes.specs.declared.event.Event.{Event}
use Rattle.lt_modes.specs.declared.event.Event.TheVariants.{Withdraw as WithdrawLine, Withdrawn, Void, Withheld}
use Rattle.lt_modes.specs.Script.{ScriptData}
use Rattle.lt_spec.specs.World.{Logged, world_after, IsRun, IsUnmarked}

-- the command is one of the older formats
abbrev pub IsOldCommand : Command → Type 0
IsOldCommand (Withdraw other s) = ⊥
IsOldCommand other = Unit {0}

-- and so is the line
abbrev pub IsOldLine : Event → Type 0
IsOldLine (WithdrawLine client other s got) = ⊥
IsOldLine (Withdrawn client s mode) = ⊥
IsOldLine (Void client s mode) = ⊥
IsOldLine (Withheld client s mode) = ⊥
IsOldLine other = Unit {0}

abbrev pub IsOldScript : ScriptData → Type 0
IsOldScript script = All (λ (request : ℕ × Command). IsOldCommand request.1) script.commands

abbrev pub UnmarkedInRuns : Type 0
UnmarkedInRuns = (script : ScriptData) (run : List Logged) → IsOldScript script → IsRun script run → (k : ℕ) → IsUnmarked (world_after script (take k run))

abbrev pub OldLinesInRuns : Type 0
OldLinesInRuns = (script : ScriptData) (run : List Logged) → IsOldScript script → IsRun script run
    → All (λ (entry : Logged). AllByRecursion IsOldLine entry.events) run
