-- What the numbers come to by which a run is bounded, in counts of the script alone.
use Rattle.std.specs.Prelude.{◌≡◌, ◌≤◌, ◌+◌, ◌*◌, ℕ, List, [], ◌∷◌, length}
use Rattle.lt_modes.specs.declared.command.Command.{Command}
use Rattle.lt_modes.specs.declared.command.Command.TheVariants.{Lock, Unlock, Try, Change, DropAll, Withdraw}
use Rattle.lt_modes.specs.Script.{ScriptData}
use Rattle.lt_spec.specs.Script.{IsScript}
use Rattle.lt_law_ends.specs.Weights.{script_weight, most_tokens}
use Rattle.lt_law_ends.specs.EndLaws.{most_moves}

-- a command of a script with so many sets and nodes leads to so many moves, where tokens move less often than `most`
abbrev pub command_moves : ℕ → ℕ → ℕ → Command → ℕ
command_moves sets nodes most (Lock s mode) = 3 * most + 2 * nodes + 6
command_moves sets nodes most (Try s mode) = 3 * most + 2 * nodes + 6
command_moves sets nodes most (Unlock s mode) = 3 * most + 2 * nodes + 6
command_moves sets nodes most (Change s gives_up mode) = 3 * most + 2 * nodes + 6
command_moves sets nodes most (Withdraw other s) = 3 * most + 2 * nodes + 6
command_moves sets nodes most (DropAll other s) = sets * (most + 2) + 1

-- and all of these commands together
abbrev pub all_moves : ℕ → ℕ → ℕ → List (ℕ × Command) → ℕ
all_moves sets nodes most [] = 0
all_moves sets nodes most (request ∷ rest) =
    command_moves sets nodes most request.1 + all_moves sets nodes most rest

-- a polynomial in the counts of commands, sets and nodes, and in how often a token moves
abbrev pub weight_bound : ℕ → ℕ → ℕ → ℕ → ℕ
weight_bound commands sets nodes most =
    commands * (3 * most + 2 * nodes + 6 + sets * (most + 2)) + sets * (2 * most)

-- a token moves less often than six times for each command and two more
abbrev pub TokensByCommands : Type 0
TokensByCommands = (script : ScriptData) → IsScript script → most_tokens script ≡ 6 * length script.commands + 2

-- a script weighs what its commands lead to, and two moves of each set for each time that a token may move
abbrev pub WeighsByCommands : Type 0
WeighsByCommands = (script : ScriptData) (most : ℕ) → IsScript script
    → script_weight script most
    ≡ all_moves (length script.sets) script.nodes most script.commands + length script.sets * (2 * most)

-- which is no more than the polynomial says
abbrev pub WeighsAtMost : Type 0
WeighsAtMost = (script : ScriptData) (most : ℕ) → IsScript script
    → script_weight script most ≤ weight_bound (length script.commands) (length script.sets) script.nodes most

-- so a run of n commands, of s sets on k nodes, has at most (6s + 18)n^2 + (16s + 2k + 12)n + 4s moves
abbrev pub MovesByCommands : Type 0
MovesByCommands = (script : ScriptData) → IsScript script
    → most_moves script
    ≤ weight_bound (length script.commands) (length script.sets) script.nodes (6 * length script.commands + 2)
