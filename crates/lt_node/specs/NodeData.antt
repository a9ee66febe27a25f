-- Which ask of a client a node finds first.
use Rattle.std.specs.Prelude.{ℕ, zero, suc, Option, None, Some, length, option_map, ◌≡◌, ◌<◌, ◌≤◌, ◌+◌, ◌++◌, List, slice_index_or, All, sum_by}
use Rattle.std.specs.Option.{option_or}
use Rattle.lt_modes.specs.declared.ask.Ask.{Ask}
use Rattle.lt_modes.specs.declared.command.Command.{Command}
use Rattle.lt_modes.specs.declared.command.Command.TheVariants as commands
use Rattle.lt_modes.specs.declared.stamp.Stamp.{Stamp}
use Rattle.lt_modes.specs.Script.{ScriptData}
use Rattle.lt_modes.specs.SetMove.{finish, drop}
use Rattle.lt_modes.specs.State.{first_state, SetState, Made}
use Rattle.lt_spec.specs.NodeMove.{NodeState, NodeMade}
use Rattle.lt_spec.specs.Script.{IsScript}
use Rattle.lt_spec.specs.declared.limits.TheConstants.{MAX_CLIENTS}
use Rattle.lt_desk.specs.DeskData.{OutData}
use Rattle.lt_desk.specs.declared.letter.Letter.{Letter}
use Rattle.lt_desk.specs.LetterSeen.{body_seen, asks_in, RoomIn}
use Rattle.lt_core.specs.declared.set_command.SetCommand.{SetCommand}
use Rattle.lt_core.specs.CoreData.{CoreData, HasMemory, HasRoom, LeavesAsk, RoomForCommand, waiting_here}
use Rattle.lt_core.specs.Steps.{live_ask}
use Rattle.lt_core.specs.Bound.{RoomToSend, most, brought}
use Rattle.lt_node.specs.Forgetting.{without_first}

abbrev pub ask_with_set : NodeState → ℕ → ℕ → Option (ℕ × Ask)
ask_with_set n client s = option_map (λ (ask : Ask). (s, ask)) (live_ask (n.set s) client)

-- the ask for which the client waits in the first of so many sets where it does, with that set
abbrev pub ask_below : NodeState → ℕ → ℕ → Option (ℕ × Ask)
ask_below n client zero = None
ask_below n client (suc s) = option_or (ask_below n client s) (ask_with_set n client s)

-- the ask for which the client waits in the first set where it does, with that set
abbrev pub first_ask : ScriptData → NodeState → ℕ → Option (ℕ × Ask)
first_ask script n client = ask_below n client (length script.sets)

-- What contracts see of a node, and what a move of it does.

-- the script, how many of its commands are forgotten, the node's number and clock, how many commands each client has
-- made here, and its sets
pub record NodeData : Type 0 where
  pub script : ScriptData
  pub gone : ℕ
  pub me : ℕ
  pub clock : ℕ
  pub made : List ℕ
  pub cores : List CoreData

-- the script without the commands that were forgotten
abbrev pub kept_script : NodeData → ScriptData
kept_script n = without_first n.gone n.script

-- a set that was never touched at this one of so many nodes: it is in its first state, with no room
abbrev pub untouched : ℕ → ℕ → ℕ → CoreData
untouched nodes me s = record {
  node = me;
  set = s;
  state = first_state nodes me;
  room = 0;
  row_room = 0;
  parked_room = 0;
  tell_room = 0;
  mark_room = 0;
}

abbrev pub first_core : ScriptData → ℕ → ℕ → CoreData
first_core script me s = untouched script.nodes me s

-- what the node keeps for the set
abbrev pub core_at : NodeData → ℕ → CoreData
core_at n s = slice_index_or n.cores s (first_core n.script n.me s)

-- the node as the rules speak of it
abbrev pub state_of : NodeData → NodeState
state_of n = record {
  clock = n.clock;
  made = λ client. slice_index_or n.made client 0;
  set = λ s. (core_at n s).state;
}

-- with what a move made put after what was there
abbrev pub with_sent : NodeMade → OutData → OutData
with_sent made out = record out { posts = out.posts ++ made.posts; events = out.events ++ made.events }

-- the node after the move, and what it sent out, are what the rule makes
pub record NodeDoes (made : NodeMade) (old : NodeData) (had : OutData) (new : NodeData) (out : OutData) : Type 0 where
  pub script : new.script ≡ old.script
  pub gone : new.gone ≡ old.gone
  pub me : new.me ≡ old.me
  pub state : state_of new ≡ made.node
  pub sent : out ≡ with_sent made had

-- it is the same node, whose memory may be another
pub record SameNode (old new : NodeData) : Type 0 where
  pub script : new.script ≡ old.script
  pub gone : new.gone ≡ old.gone
  pub me : new.me ≡ old.me
  pub made : new.made ≡ old.made
  pub state : state_of new ≡ state_of old

-- the core is that of this set at this node
pub record IsCoreOf (q s : ℕ) (core : CoreData) : Type 0 where
  pub node : core.node ≡ q
  pub set : core.set ≡ s

-- a node of a script, with what it keeps for each set and each client
pub record IsNode (n : NodeData) : Type 0 where
  pub is_script : IsScript n.script
  pub within : n.me < n.script.nodes
  pub clients : length n.made ≡ length n.script.clients
  pub sets : length n.cores ≡ length n.script.sets
  pub places : (s : ℕ) → s < length n.cores → IsCoreOf n.me s (core_at n s)

-- The end of a move in all sets of a family.

-- the state of each set
abbrev pub sets_in : ScriptData → ℕ → List CoreData → ℕ → SetState
sets_in script me cores s = (slice_index_or cores s (first_core script me s)).state

-- the node with these sets
abbrev pub with_sets : ScriptData → ℕ → List CoreData → NodeState → NodeState
with_sets script me cores n = record n { set = sets_in script me cores }

-- the end of a move in a set; where a client is named, all its locks go first
abbrev pub ending : Option ℕ → Stamp → ℕ → SetState → Made
ending None stamp = λ s. finish s stamp
ending (Some client) stamp = λ s. drop s stamp client

-- the sets after a move, and what they sent out, are what the rule makes of a node with the sets before
pub record SetsDo (script : ScriptData) (me : ℕ) (rule : NodeState → NodeMade) (old : List CoreData) (had : OutData) (new : List CoreData) (out : OutData) (n : NodeState) : Type 0 where
  pub node : with_sets script me new n ≡ (rule (with_sets script me old n)).node
  pub sent : out ≡ with_sent (rule (with_sets script me old n)) had

-- Room for one move of a node.

-- so many letters at most, and so many event lines, come from a set in one move
abbrev pub most_sent : CoreData → ℕ
most_sent core = most core.state + 2

-- room for the letter, in its set and in the desk that it brings
pub record RoomForLetter (core : CoreData) (letter : Letter) (out : OutData) : Type 0 where
  pub memory : HasMemory (asks_in letter.body) core
  pub desk : RoomIn (waiting_here core.state + asks_in letter.body + 2) letter.body
  pub send : RoomToSend (most_sent core + brought (body_seen letter.body)) out

-- the same at the node
abbrev pub RoomToTake : NodeData → Letter → OutData → Type 0
RoomToTake n letter out = RoomForLetter (core_at n letter.set) letter out

-- no more asks wait in the set than a script has clients
abbrev pub HasFewAsks : CoreData → Type 0
HasFewAsks core = waiting_here core.state ≤ MAX_CLIENTS

-- what stays of a set where memory is taken
pub record KeptData : Type 0 where
  pub node : ℕ
  pub set : ℕ
  pub state : SetState

abbrev pub kept_of : CoreData → KeptData
kept_of core = record { node = core.node; set = core.set; state = core.state }

-- the set is ready for the client's command in a move with this clock
pub record IsSetReady (client : ℕ) (command : SetCommand) (clock : ℕ) (core : CoreData) (out : OutData) : Type 0 where
  pub room : RoomForCommand client clock core command
  pub send : RoomToSend (most_sent core) out

-- all of these sets are ready for a move with this clock, where one command touches them, which has a line of its own
pub record AreReady (sets : List ℕ) (clock : ℕ) (core : ℕ → CoreData) (out : OutData) : Type 0 where
  pub rooms : All (λ s. HasRoom 2 clock (core s)) sets
  pub send : RoomToSend (sum_by (λ s. most_sent (core s)) sets + 1) out

-- a set has room for what the command keeps of a client there: the ask of the one that makes it, or a mark
abbrev pub KeepsClient : ℕ → (ℕ → CoreData) → Command → Type 0
KeepsClient client core (commands.Lock s mode) = LeavesAsk client (core s)
KeepsClient client core (commands.Try s mode) = Unit {0}
KeepsClient client core (commands.Unlock s mode) = Unit {0}
KeepsClient client core (commands.Change s gives_up mode) = LeavesAsk client (core s)
KeepsClient client core (commands.DropAll other s) = Unit {0}
KeepsClient client core (commands.Withdraw other s) = 1 ≤ (core s).mark_room
