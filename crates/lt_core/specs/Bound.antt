-- How much one move can send out.
use Rattle.std.specs.Prelude.{ℕ, ◌+◌, ◌≤◌, Option, Some, None, length, ◌==◌, List, [], map}
use Rattle.std.specs.Int.{bit_at}
use Rattle.lt_modes.specs.declared.stamp.Stamp.{Stamp}
use Rattle.lt_modes.specs.State.{SetState, Desk, Letter, Body, AskBody, TellBody, CopyBody, TokenBody, FreezeBody, Made, post_of}
use Rattle.lt_modes.specs.SetMove.{finish}
use Rattle.lt_modes.specs.Taking.{take}
use Rattle.lt_modes.specs.Freezing.{cons_if}
use Rattle.lt_modes.specs.declared.event.Event.TheVariants.{Freeze}
use Rattle.lt_modes.specs.Modes.{Modes}
use Rattle.lt_desk.specs.DeskData.{OutData, FitsOut}
use Rattle.lt_core.specs.declared.set_command.SetCommand.{SetCommand}
use Rattle.lt_core.specs.CoreData.{waiting_here, move_of}

-- the nodes that the desk knows, where it is here
abbrev pub nodes_of : Option Desk → ℕ
nodes_of None = 0
nodes_of (Some desk) = length desk.entries

-- so many letters at most, and so many event lines, come from the end of a move: one for each ask that waits,
-- one for each node, and the token or a tell
abbrev pub most : SetState → ℕ
most s = waiting_here s + nodes_of s.desk + 1

-- so many asks and nodes come with what a letter says
abbrev pub brought : Body → ℕ
brought (AskBody ask marked) = 0
brought (TellBody tell) = 0
brought (CopyBody ask) = 0
brought (TokenBody desk) = length desk.queue + length desk.entries
brought (FreezeBody number modes) = 0

-- room for so many letters more, and so many event lines
pub record RoomToSend (n : ℕ) (out : OutData) : Type 0 where
  pub posts : length out.posts + n ≤ out.post_room
  pub events : length out.events + n ≤ out.event_room

-- what the end of a move makes fits
abbrev pub EndsFit : Type 0
EndsFit = (set : ℕ) (stamp : Stamp) (s : SetState) (out : OutData) → RoomToSend (most s) out → FitsOut (finish set stamp s) out

-- what a command makes fits
abbrev pub CommandsFit : Type 0
CommandsFit =
    (stamp : Stamp) (client : ℕ) (command : SetCommand) (set : ℕ) (s : SetState) (out : OutData)
    → RoomToSend (most s + 2) out
    → FitsOut (move_of stamp client command set s) out

-- what a letter makes where it is taken fits
abbrev pub TakesFit : Type 0
TakesFit =
    (stamp : Stamp) (letter : Letter) (s : SetState) (out : OutData)
    → RoomToSend (most s + brought letter.body + 2) out
    → FitsOut (take stamp letter s) out

-- The letters and the lines of a freeze.

-- these nodes are sent the frozen modes with this number, and the state stays
abbrev pub notices : ℕ → Stamp → SetState → Modes → ℕ → List ℕ → Made
notices set stamp s frozen number told = record {
  state = s;
  posts = map (λ x. post_of set stamp s x (FreezeBody number frozen)) told;
  events = map (λ x. Freeze set x number frozen) told;
}

-- the node alone, where the mask has it
abbrev pub node_if : ℕ → ℕ → List ℕ
node_if mask x = cons_if (bit_at mask x == 1) x []
