-- Which commands a client may submit.
use Rattle.std.specs.Prelude.{◌==◌, ◌&&◌, ◌≡◌, Bool, ℕ, List, Some, true, nat_lt, length, slice_get}
use Rattle.lt_modes.specs.FiveModes.{is_of_version}
use Rattle.lt_modes.specs.declared.command.Command.{Command}
use Rattle.lt_modes.specs.declared.command.Command.TheVariants.{Lock, Try, Unlock, Change, DropAll, Withdraw}
use Rattle.lt_modes.specs.Script.{ScriptData, home_at}

abbrev pub has_set : ScriptData → ℕ → Bool
has_set script set = nat_lt set (length script.sets)

-- the other client is of the script, and of the client's node
abbrev pub is_neighbour : ScriptData → ℕ → ℕ → Bool
is_neighbour script client other =
    nat_lt other (length script.clients) && home_at script.clients other == home_at script.clients client

-- all that the command names is of the script and of its version, and so is the client whose locks it drops or whose ask
-- it gives up, of the same node; `withdraw` is of version 3
abbrev pub may_ask : ScriptData → ℕ → Command → Bool
may_ask script client (Lock set mode) = has_set script set && is_of_version script.version mode
may_ask script client (Try set mode) = has_set script set && is_of_version script.version mode
may_ask script client (Unlock set mode) = has_set script set && is_of_version script.version mode
may_ask script client (Change set gives_up mode) =
    has_set script set && (is_of_version script.version gives_up && is_of_version script.version mode)
may_ask script client (DropAll other set) = has_set script set && is_neighbour script client other
may_ask script client (Withdraw other set) =
    has_set script set && (is_neighbour script client other && script.version == 3)

-- so it is of each of these
abbrev pub MayAskAll : ScriptData → ℕ → List Command → Type 0
MayAskAll script client commands =
    (k : ℕ) (command : Command) → slice_get commands k ≡ Some command → may_ask script client command ≡ true
