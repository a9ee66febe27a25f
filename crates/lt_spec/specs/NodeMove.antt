-- A move of one node: it makes a command of a client, or takes a letter; over all its sets.
use Rattle.std.specs.Prelude.{◌==◌, Bool, ℕ, List, Option, Some, None, if◌then◌else◌, filter_map, ◌≡◌, [], ◌∷◌, ◌++◌, nat_lt, ◌+◌, max, length, slice_get, sum_by, ◌<◌, All, ◌&&◌, not, false, ◌||◌}
use Rattle.std.specs.List.{AllByRecursion}
use mathlib.Core.List.{IsPrefix}
use Rattle.lt_modes.specs.declared.command.Command.{Command}
use Rattle.lt_modes.specs.Freezing.{places_from}
use Rattle.lt_modes.specs.Script.{ScriptData, SetData, home_at, family_at}
use Rattle.lt_modes.specs.declared.stamp.Stamp.{Stamp}
use Rattle.lt_modes.specs.declared.command.Command.TheVariants.{Lock, Unlock, Try, Change, DropAll, Withdraw}
use Rattle.lt_modes.specs.declared.event.Event.{Event}
use Rattle.lt_modes.specs.declared.event.Event.TheVariants.{Busy, DropAll as Dropped}
use Rattle.lt_modes.specs.State.{SetState, Letter, Made, Post}
use Rattle.lt_modes.specs.Modes.{locks_of}
use Rattle.lt_modes.specs.Waiting.{waits}
use Rattle.lt_modes.specs.SetMove.{finish, lock, try, unlock, change, drop, withdraw}
use Rattle.lt_modes.specs.Taking.{take}
use Rattle.lt_lists.specs.Below.{gather_below, any_below, put}

-- What a script says of a client and of a set.

abbrev pub command_if : ℕ → ℕ × Command → Option Command
command_if client request = if request.0 == client then Some request.1 else None

-- the client's commands, in order
abbrev pub commands_of : ScriptData → ℕ → List Command
commands_of script client = filter_map (command_if client) script.commands

-- the client's node
abbrev pub home : ScriptData → ℕ → ℕ
home script client = home_at script.clients client

-- the first set of the set's family
abbrev pub family : ScriptData → ℕ → ℕ
family script s = family_at script.sets s

-- the sets are of one family
abbrev pub is_related : ScriptData → ℕ → ℕ → Bool
is_related script a b = family script a == family script b

-- the sets of the set's family, in order
abbrev pub related : ScriptData → ℕ → List ℕ
related script s = places_from (λ k (set : SetData). set.family == family script s) 0 script.sets

-- One move of a node: all its sets, and the commands of its clients.

-- a node: its clock, how many commands each client has made, and its sets
pub record NodeState : Type 0 where
  pub clock : ℕ
  pub made : ℕ → ℕ
  pub set : ℕ → SetState

-- what a node move made: the node's new state, and the letters and the event lines in order
pub record NodeMade : Type 0 where
  pub node : NodeState
  pub posts : List Post
  pub events : List Event

abbrev pub no_move : NodeState → NodeMade
no_move n = record { node = n; posts = []; events = [] }

-- an ask of the client is unanswered, in some set
abbrev pub node_waits : ScriptData → NodeState → ℕ → Bool
node_waits script n client = any_below (length script.sets) (λ s. waits (n.set s) client)

-- the client has a command left
abbrev pub has_command : ScriptData → NodeState → ℕ → Bool
has_command script n client = nat_lt (n.made client) (length (commands_of script client))

-- the client's next command
abbrev pub next_command : ScriptData → NodeState → ℕ → Option Command
next_command script n client = slice_get (commands_of script client) (n.made client)

-- the command gives up the very ask for which the client waits
abbrev pub withdraws_itself : NodeState → ℕ → Option Command → Bool
withdraws_itself n client None = false
withdraws_itself n client (Some (Lock s mode)) = false
withdraws_itself n client (Some (Try s mode)) = false
withdraws_itself n client (Some (Unlock s mode)) = false
withdraws_itself n client (Some (Change s gives_up mode)) = false
withdraws_itself n client (Some (DropAll other s)) = false
withdraws_itself n client (Some (Withdraw other s)) = other == client && waits (n.set s) client

-- the client doesn't wait, or its next command gives up what it waits for
abbrev pub is_free_at : ScriptData → NodeState → ℕ → Bool
is_free_at script n client = not (node_waits script n client) || withdraws_itself n client (next_command script n client)

-- the stamp of the node's next act
abbrev pub act_stamp : ℕ → NodeState → Stamp
act_stamp q n = record { clock = n.clock + 1; node = q }

-- the stamp of the node's take of this letter
abbrev pub take_stamp : ℕ → NodeState → Letter → Stamp
take_stamp q n letter = record { clock = max n.clock letter.stamp.clock + 1; node = q }

-- the set is in the state that was made of it
abbrev pub touched : NodeState → ℕ → Made → NodeMade
touched n s made =
    record { node = record n { set = put n.set s made.state }; posts = made.posts; events = made.events }

abbrev pub joined_moves : NodeMade → NodeMade → NodeMade
joined_moves first second = record {
  node = second.node;
  posts = first.posts ++ second.posts;
  events = first.events ++ second.events;
}

-- first the one thing, then the rule on the node that it left
abbrev pub then_move : NodeMade → (NodeState → NodeMade) → NodeMade
then_move made rule = joined_moves made (rule made.node)

-- the rule is applied to each of these sets, in order
abbrev pub each_touched : (ℕ → SetState → Made) → List ℕ → NodeState → NodeMade
each_touched rule [] n = no_move n
each_touched rule (s ∷ rest) n = then_move (touched n s (rule s (n.set s))) (each_touched rule rest)

-- the answer stands before what the sets made
abbrev pub answered_first : Event → NodeMade → NodeMade
answered_first event made = record made { events = event ∷ made.events }

-- how many locks the client has in these sets
abbrev pub locks_in_sets : NodeState → ℕ → List ℕ → ℕ
locks_in_sets n client sets = sum_by (λ s. locks_of (n.set s).held client) sets

-- a client drops all locks of another one of its node in a family, unless that one waits in some set
abbrev pub drop_all : Bool → Stamp → ℕ → ℕ → ℕ → List ℕ → NodeState → NodeMade
drop_all waiting stamp client other s sets n =
    if waiting
    then answered_first (Busy client other s) (each_touched (λ k. finish k stamp) sets n)
    else answered_first
    (Dropped client other s (locks_in_sets n other sets))
    (each_touched (λ k. drop k stamp other) sets n)

-- the client makes the command
abbrev pub obey : ScriptData → Stamp → ℕ → Option Command → NodeState → NodeMade
obey script stamp client None n = no_move n
obey script stamp client (Some (Lock s mode)) n = touched n s (lock s stamp client mode (n.set s))
obey script stamp client (Some (Try s mode)) n = touched n s (try s stamp client mode (n.set s))
obey script stamp client (Some (Unlock s mode)) n = touched n s (unlock s stamp client mode (n.set s))
obey script stamp client (Some (Change s gives_up mode)) n =
    touched n s (change s stamp client gives_up mode (n.set s))
obey script stamp client (Some (DropAll other s)) n =
    drop_all (node_waits script n other) stamp client other s (related script s) n
obey script stamp client (Some (Withdraw other s)) n = touched n s (withdraw s stamp client other (n.set s))

-- the node at this clock
abbrev pub at_clock : ℕ → NodeState → NodeState
at_clock clock n = record n { clock = clock }

-- the client has made one command more
abbrev pub one_made : ℕ → NodeState → NodeState
one_made client n = record n { made = put n.made client (n.made client + 1) }

-- node q makes the next command of the client
abbrev pub node_act : ScriptData → ℕ → ℕ → NodeState → NodeMade
node_act script q client n =
    obey script (act_stamp q n) client (next_command script n client) (one_made client (at_clock (n.clock + 1) n))

-- node q takes the letter
abbrev pub node_take : ℕ → Letter → NodeState → NodeMade
node_take q letter n =
    touched (at_clock (take_stamp q n letter).clock n) letter.set (take (take_stamp q n letter) letter (n.set letter.set))

-- Scripts that say the same of all but commands.

-- the script with these commands in place of its own
abbrev pub with_commands : ScriptData → List (ℕ × Command) → ScriptData
with_commands script commands = record script { commands = commands }

abbrev pub AnyClient : ℕ → Type 0
AnyClient client = Unit {0}

abbrev pub IsHomeAt : ScriptData → ℕ → ℕ → Type 0
IsHomeAt script q client = home script client ≡ q

-- with these commands the list of each client that passes goes on from what it is in the script
abbrev pub GoOn : (ℕ → Type 0) → ScriptData → List (ℕ × Command) → Type 0
GoOn pass script commands = (client : ℕ) → pass client → IsPrefix (commands_of script client) (commands_of (with_commands script commands) client)

-- the script with one command more, the last one of its client
abbrev pub appended : ScriptData → ℕ → Command → ScriptData
appended script client command = with_commands script (script.commands ++ (client, command) ∷ [])

-- the scripts differ in the commands of clients of other nodes alone: node q sees the same in both
pub record SameAt (q : ℕ) (a b : ScriptData) : Type 0 where
  pub rest : b ≡ with_commands a b.commands
  pub own : (client : ℕ) → home a client ≡ q → commands_of b client ≡ commands_of a client

-- all of these commands are of clients of node q
abbrev pub AreAt : ScriptData → ℕ → List (ℕ × Command) → Type 0
AreAt script q commands = AllByRecursion (λ (request : ℕ × Command). home script request.0 ≡ q) commands

-- the script as node q knows it, once it appended these commands
abbrev pub share_of : ScriptData → (ℕ → List (ℕ × Command)) → ℕ → ScriptData
share_of script shares q = with_commands script (script.commands ++ shares q)

-- the script with all commands that its nodes appended
abbrev pub joined_of : ScriptData → (ℕ → List (ℕ × Command)) → ScriptData
joined_of script shares = with_commands script (script.commands ++ gather_below script.nodes shares)

-- Which scripts runs are of: clients are on nodes of the script, and what commands name is of it.

-- the command is for a set of the script, and a client whose locks it drops, or whose ask it gives up, is on the node of the
-- one that makes it
abbrev pub HasTargetsAt : ScriptData → ℕ → Command → Type 0
HasTargetsAt script client (Lock s mode) = s < length script.sets
HasTargetsAt script client (Try s mode) = s < length script.sets
HasTargetsAt script client (Unlock s mode) = s < length script.sets
HasTargetsAt script client (Change s gives_up mode) = s < length script.sets
HasTargetsAt script client (DropAll other s) =
    (s < length script.sets) × (other < length script.clients) × (home script other ≡ home script client)
HasTargetsAt script client (Withdraw other s) =
    (s < length script.sets) × (other < length script.clients) × (home script other ≡ home script client)

-- the script has a node, clients are on nodes of the script, and what commands name is of the script
pub record IsWhole (script : ScriptData) : Type 0 where
  pub some_node : 0 < script.nodes
  pub homes : (client : ℕ) → client < length script.clients → home script client < script.nodes
  pub commands : All (λ (request : ℕ × Command). HasTargetsAt script request.0 request.1) script.commands
