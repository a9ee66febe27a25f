-- Which sets a command touches, and what has to be free there before it is made.
use Rattle.std.specs.Prelude.{ℕ, Bool, true, List, [], ◌∷◌, Option, None, Some, All, sum_by, ◌+◌, ◌≤◌, ◌&&◌, nat_le, if◌then◌else◌}
use Rattle.std.specs.List.{list_all}
use Rattle.lt_modes.specs.declared.command.Command.{Command}
use Rattle.lt_modes.specs.declared.command.Command.TheVariants as commands
use Rattle.lt_modes.specs.Script.{ScriptData}
use Rattle.lt_modes.specs.State.{Letter}
use Rattle.lt_modes.specs.Modes.{locks_of}
use Rattle.lt_spec.specs.NodeMove.{NodeState, next_command, related, locks_in_sets}
use Rattle.lt_spec.specs.Limits.{set_within, leaves_ask}
use Rattle.lt_spec.specs.declared.limits.TheConstants.{MAX_COMMANDS_OF_SERVICE}
use Rattle.lt_desk.specs.DeskData.{OutData}
use Rattle.lt_core.specs.CoreData.{CoreData, HasMemory}
use Rattle.lt_core.specs.Bound.{RoomToSend}
use Rattle.lt_node.specs.NodeData.{NodeData, core_at, state_of, most_sent, HasFewAsks}
use Rattle.lt_node.specs.Sets.{SetsData, core_in}

-- the set that the command names, and for a drop all sets of its family
abbrev pub touched_sets : ScriptData → Command → List ℕ
touched_sets script (commands.Lock s mode) = s ∷ []
touched_sets script (commands.Try s mode) = s ∷ []
touched_sets script (commands.Unlock s mode) = s ∷ []
touched_sets script (commands.Change s gives_up mode) = s ∷ []
touched_sets script (commands.DropAll other s) = related script s
touched_sets script (commands.Withdraw other s) = s ∷ []

-- the set that the command names
abbrev pub named_set : Command → ℕ
named_set (commands.Lock s mode) = s
named_set (commands.Try s mode) = s
named_set (commands.Unlock s mode) = s
named_set (commands.Change s gives_up mode) = s
named_set (commands.DropAll other s) = s
named_set (commands.Withdraw other s) = s

abbrev pub touched_by : ScriptData → Option Command → List ℕ
touched_by script None = []
touched_by script (Some command) = touched_sets script command

-- the sets that the client's next command touches
abbrev pub touches : ScriptData → NodeState → ℕ → List ℕ
touches script n client = touched_by script (next_command script n client)

-- what the node keeps for these sets leaves room for a move
abbrev pub sets_within : NodeState → List ℕ → Bool
sets_within n sets = list_all (λ s. set_within n.clock (n.set s)) sets

-- the client may ask in each of these sets, or has an ask there already
abbrev pub sets_leave_asks : NodeState → ℕ → List ℕ → Bool
sets_leave_asks n client sets = list_all (λ s. leaves_ask client (n.set s)) sets

-- where locks are dropped, no more are so than a service has commands
abbrev pub drops_few : ScriptData → NodeState → Option Command → Bool
drops_few script n None = true
drops_few script n (Some (commands.Lock s mode)) = true
drops_few script n (Some (commands.Try s mode)) = true
drops_few script n (Some (commands.Unlock s mode)) = true
drops_few script n (Some (commands.Change s gives_up mode)) = true
drops_few script n (Some (commands.DropAll other s)) =
    nat_le (locks_in_sets n other (related script s)) MAX_COMMANDS_OF_SERVICE
drops_few script n (Some (commands.Withdraw other s)) = true

-- what the node keeps for the sets that the client's command touches leaves room for it
abbrev pub leaves_room_to_obey : ScriptData → NodeState → ℕ → Option Command → Bool
leaves_room_to_obey script n client command =
    sets_within n (touched_by script command)
    && (sets_leave_asks n client (touched_by script command) && drops_few script n command)

-- the same of the client's next command
abbrev pub leaves_room_to_act : ScriptData → NodeState → ℕ → Bool
leaves_room_to_act script n client = leaves_room_to_obey script n client (next_command script n client)

-- and of a letter
abbrev pub leaves_room_to_take : NodeState → Letter → Bool
leaves_room_to_take n letter = set_within n.clock (n.set letter.set)

-- The same set by set.

-- what the node keeps for the set leaves room for a command of the client
abbrev pub leaves_room_in : NodeState → ℕ → ℕ → Bool
leaves_room_in n client s = set_within n.clock (n.set s) && leaves_ask client (n.set s)

-- so many locks and those that the other client has in the set, where the client may drop all of them there
abbrev pub with_dropped : NodeState → ℕ → ℕ → ℕ → ℕ → Option ℕ
with_dropped n client s other locks =
    if leaves_room_in n client s && nat_le (locks + locks_of (n.set s).held other) MAX_COMMANDS_OF_SERVICE
    then Some (locks + locks_of (n.set s).held other)
    else None

-- Memory.

-- a set has room for the mark that the command may leave there
abbrev pub LeavesMark : (ℕ → CoreData) → Option Command → Type 0
LeavesMark core None = Unit {0}
LeavesMark core (Some (commands.Lock s mode)) = Unit {0}
LeavesMark core (Some (commands.Try s mode)) = Unit {0}
LeavesMark core (Some (commands.Unlock s mode)) = Unit {0}
LeavesMark core (Some (commands.Change s gives_up mode)) = Unit {0}
LeavesMark core (Some (commands.DropAll other s)) = Unit {0}
LeavesMark core (Some (commands.Withdraw other s)) = 1 ≤ (core s).mark_room

-- room for the client's next command: in each set that it touches, for the mark that it leaves, and for what they all
-- send, with a line of its own
pub record RoomToAct (client : ℕ) (n : NodeData) (out : OutData) : Type 0 where
  pub cores : All (λ s. HasMemory 0 (core_at n s)) (touches n.script (state_of n) client)
  pub mark : LeavesMark (core_at n) (next_command n.script (state_of n) client)
  pub send : RoomToSend (sum_by (λ s. most_sent (core_at n s)) (touches n.script (state_of n) client) + 1) out

-- no more asks wait in each of these sets than a script has clients
abbrev pub HaveFewAsks : SetsData → List ℕ → Type 0
HaveFewAsks sets numbers = All (λ s. HasFewAsks (core_in sets s)) numbers

-- each of them has memory for a move
abbrev pub HaveMemory : SetsData → List ℕ → Type 0
HaveMemory sets numbers = All (λ s. HasMemory 0 (core_in sets s)) numbers

-- how many letters at most, and how many event lines, come from them
abbrev pub sent_by : SetsData → List ℕ → ℕ
sent_by sets numbers = sum_by (λ s. most_sent (core_in sets s)) numbers
