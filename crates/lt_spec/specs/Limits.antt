-- How much a node may keep for a set, and with which clocks.
use Rattle.std.specs.Prelude.{Bool, ℕ, Option, Some, None, nat_lt, length, true, ◌&&◌, not, nat_le, ◌||◌}
use Rattle.lt_modes.specs.Script.{ScriptData}
use Rattle.lt_modes.specs.State.{SetState, Desk}
use Rattle.lt_modes.specs.Modes.{locks_in}
use Rattle.lt_modes.specs.Fits.{asks_here, has_client}
use Rattle.lt_lists.specs.Below.{any_below}
use Rattle.lt_spec.specs.declared.limits.TheConstants.{MAX_COMMANDS_OF_SERVICE, MAX_CLIENTS, MAX_CLIENTS_OF_NODE}
use Rattle.lt_spec.specs.NodeMove.{NodeState}

-- neither the desk's epoch nor its freeze number is above the clock
abbrev pub desk_within : ℕ → Option Desk → Bool
desk_within clock None = true
desk_within clock (Some desk) = nat_le desk.epoch clock && nat_le desk.number clock

-- no more locks of the set are held than a service has commands, and no more asks stand here than it has clients
abbrev pub set_within : ℕ → SetState → Bool
set_within clock s =
    nat_le (locks_in s.held) MAX_COMMANDS_OF_SERVICE && (nat_le (length (asks_here s)) MAX_CLIENTS && desk_within clock s.desk)

-- so it is in each set of the script
abbrev pub node_within : ScriptData → NodeState → Bool
node_within script n = not (any_below (length script.sets) (λ s. not (set_within n.clock (n.set s))))

-- an ask of the client is unanswered here, or fewer are than a node may have clients
abbrev pub leaves_ask : ℕ → SetState → Bool
leaves_ask client s = has_client client s.pending || nat_lt (length s.pending) MAX_CLIENTS_OF_NODE

-- so it is in each set of the script
abbrev pub leaves_asks : ScriptData → NodeState → ℕ → Bool
leaves_asks script n client = not (any_below (length script.sets) (λ s. not (leaves_ask client (n.set s))))
