-- Which runners of a live service show a move.
use Rattle.std.specs.Prelude.{◌≡◌, ℕ, List, Some, slice_get}
use Rattle.lt_modes.specs.Script.{ScriptData}
use Rattle.lt_spec.specs.NodeMove.{with_commands}
use Rattle.lt_spec.specs.Script.{IsScript}
use Rattle.lt_spec.specs.World.{can_move}
use Rattle.lt_runner.specs.declared.parts.Parts.{Parts}
use Rattle.lt_runner.specs.Choices.{next_choice}
use Rattle.lt_runner.specs.Kept.{AsSeen, HasFetched, is_move}
use Rattle.lt_threads.specs.Meeting.{AreShares, AreKept, EachIs, AreMet, AnyTwo, commands_in, crew_world}

-- once runners that each appended commands have looked at the rings between each two of them, one that took a letter that
-- is known to come, where it had none in hand, shows a move exactly where its node can make one by the script with the
-- commands of all
abbrev pub ShowsNow : Type 0
ShowsNow =
    (script : ScriptData) (rs looked : List Parts) → AreShares script rs → IsScript (with_commands script (commands_in rs))
    → EachIs AsSeen rs looked → AreMet AnyTwo looked → AreKept looked
    → (k : ℕ) (p : Parts) → slice_get looked k ≡ Some p → HasFetched p
    → is_move (next_choice p)
    ≡ can_move (with_commands script (commands_in rs)) (crew_world (with_commands script (commands_in rs)) looked) k
