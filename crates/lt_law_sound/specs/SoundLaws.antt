-- What keeps one node sound, and what a sound node has room for, with no world around it.
use Rattle.std.specs.Prelude.{ℕ, List, [], ◌∷◌, ◌≡◌, ◌<◌, ◌≤◌, ◌&&◌, length, IsTrue}
use Rattle.lt_modes.specs.Script.{ScriptData}
use Rattle.lt_modes.specs.State.{Letter}
use Rattle.lt_modes.specs.Fits.{fits, numbers_of}
use Rattle.lt_spec.specs.NodeMove.{commands_of, home, NodeState, is_free_at, has_command, node_act, node_take, IsWhole}
use Rattle.lt_spec.specs.Script.{IsScript}
use Rattle.lt_spec.specs.World.{World, start}
use Rattle.lt_model.specs.Invariant.{SoundNode, WorldInvariant}
use Rattle.lt_node.specs.Touched.{leaves_room_to_act, leaves_room_to_take}

-- the client is of node q, and has a command left; it waits for nothing there, or gives up by the command what it waits for
pub record CanCommand (script : ScriptData) (q : ℕ) (n : NodeState) (client : ℕ) : Type 0 where
  pub known : client < length script.clients
  pub own : home script client ≡ q
  pub runnable : IsTrue (is_free_at script n client && has_command script n client)

-- the letter fits node q
abbrev pub FitsNode : ScriptData → ℕ → NodeState → Letter → Type 0
FitsNode script q n letter = IsTrue (fits (numbers_of script) q n.clock (n.set letter.set) letter)

-- no client made more commands than it has
abbrev pub MadeOnlyTheirs : ScriptData → NodeState → Type 0
MadeOnlyTheirs script n = (client : ℕ) → n.made client ≤ length (commands_of script client)

-- A move of a node keeps it sound.

-- a command of a client that may make it
abbrev pub CommandsKeepSound : Type 0
CommandsKeepSound = (script : ScriptData) (q client : ℕ) (n : NodeState) → IsWhole script → SoundNode script q n
    → CanCommand script q n client → SoundNode script q (node_act script q client n).node

-- the take of a letter that fits
abbrev pub TakesKeepSound : Type 0
TakesKeepSound = (script : ScriptData) (q : ℕ) (letter : Letter) (n : NodeState) → IsWhole script → q < script.nodes
    → SoundNode script q n → FitsNode script q n letter → SoundNode script q (node_take q letter n).node

-- each node of a script is sound at the start
abbrev pub SoundAtStart : Type 0
SoundAtStart = (script : ScriptData) (q : ℕ) → IsWhole script → q < script.nodes
    → SoundNode script q ((start script).node q)

-- each node of a world that has the invariant is sound
abbrev pub SoundInWorlds : Type 0
SoundInWorlds = (script : ScriptData) (w : World) (q : ℕ) → WorldInvariant script w → q < script.nodes
    → SoundNode script q (w.node q)

-- A sound node has room for its next move.

-- for a command of a client that may make it
abbrev pub RoomForCommands : Type 0
RoomForCommands = (script : ScriptData) (q client : ℕ) (n : NodeState) → IsScript script → SoundNode script q n
    → MadeOnlyTheirs script n → CanCommand script q n client → IsTrue (leaves_room_to_act script n client)

-- for a letter that fits
abbrev pub RoomForTakes : Type 0
RoomForTakes = (script : ScriptData) (q : ℕ) (n : NodeState) (letter : Letter) → IsScript script → SoundNode script q n
    → MadeOnlyTheirs script n → FitsNode script q n letter → IsTrue (leaves_room_to_take n letter)

-- A program that drives one node alone.

-- a move of one node: the next command of a client, or the take of a letter
pub data OwnMove : Type 0 where
  Commands : ℕ → OwnMove
  Takes : Letter → OwnMove

-- node q can make it
abbrev pub MayMove : ScriptData → ℕ → NodeState → OwnMove → Type 0
MayMove script q n (Commands client) = CanCommand script q n client
MayMove script q n (Takes letter) = FitsNode script q n letter

-- node q after it
abbrev pub moved_by : ScriptData → ℕ → NodeState → OwnMove → NodeState
moved_by script q n (Commands client) = (node_act script q client n).node
moved_by script q n (Takes letter) = (node_take q letter n).node

-- node q after all of these, in order
abbrev pub after_own : ScriptData → ℕ → NodeState → List OwnMove → NodeState
after_own script q n [] = n
after_own script q n (move ∷ rest) = after_own script q (moved_by script q n move) rest

-- node q can make each of them in its turn
abbrev pub MayMakeAll : ScriptData → ℕ → NodeState → List OwnMove → Type 0
MayMakeAll script q n [] = Unit {0}
MayMakeAll script q n (move ∷ rest) =
    MayMove script q n move × MayMakeAll script q (moved_by script q n move) rest

-- what the node keeps leaves room for the move
abbrev pub LeavesRoom : ScriptData → NodeState → OwnMove → Type 0
LeavesRoom script n (Commands client) = IsTrue (leaves_room_to_act script n client)
LeavesRoom script n (Takes letter) = IsTrue (leaves_room_to_take n letter)

-- after any list of moves that it can make from the start on, a node is sound
abbrev pub OwnMovesKeepSound : Type 0
OwnMovesKeepSound = (script : ScriptData) (q : ℕ) (moves : List OwnMove) → IsWhole script → q < script.nodes
    → MayMakeAll script q ((start script).node q) moves
    → SoundNode script q (after_own script q ((start script).node q) moves)

-- and it has room for each further one
abbrev pub OwnMovesHaveRoom : Type 0
OwnMovesHaveRoom = (script : ScriptData) (q : ℕ) (moves : List OwnMove) (next : OwnMove) → IsScript script
    → q < script.nodes → MayMakeAll script q ((start script).node q) moves
    → MayMove script q (after_own script q ((start script).node q) moves) next
    → LeavesRoom script (after_own script q ((start script).node q) moves) next
