-- What the fields of a world hold, for the moves that were made.
use Rattle.std.specs.Prelude.{◌≡◌, ◌<◌, ◌≤◌, ◌+◌, ◌^◌, ℕ, List, [], Option, Some, None, length, slice_index_or, slice_set, if◌then◌else◌, IsTrue, Bool, false, ◌==◌, ◌&&◌, nat_lt, ◌∷◌, ◌++◌, ◌≢◌, ◌-◌, unwrap_or}
use Rattle.lt_modes.specs.declared.moves.Step.{Step}
use Rattle.lt_modes.specs.Script.{ScriptData}
use Rattle.lt_modes.specs.declared.mode.Mode.{Mode}
use Rattle.lt_modes.specs.Modes.{conflicts, count_of}
use Rattle.lt_modes.specs.declared.moves.Step.TheVariants as steps
use Rattle.lt_modes.specs.declared.event.Event.{Event}
use Rattle.lt_modes.specs.declared.moves.Step.TheVariants.{Act}
use Rattle.lt_modes.specs.State.{Letter}
use Rattle.lt_modes.specs.Fits.{fits, numbers_of}
use Rattle.lt_lists.specs.Below.{sum_below}
use Rattle.lt_spec.specs.Script.{IsScript}
use Rattle.lt_spec.specs.World.{Logged, World, world_after, made_by, is_runnable, is_enabled, opened, IsRun, moves_of, logged, line_client}
use Rattle.lt_spec.specs.NodeMove.{NodeState, home, is_free_at, has_command}
use Rattle.lt_spec.specs.declared.moves.TheConstants.{MAX_MOVES}
use Rattle.lt_spec.specs.Facts.{state_at}
use Rattle.lt_merge.specs.Merging.{RunData, events_at}
use Rattle.lt_desk.specs.DeskData.{OutData}
use Rattle.lt_desk.specs.LetterSeen.{letter_seen}
use Rattle.lt_node.specs.NodeData.{NodeData, SameNode, state_of, RoomToTake}
use Rattle.lt_node.specs.Touched.{RoomToAct, leaves_room_to_act, leaves_room_to_take}
use Rattle.lt_inbox.specs.Mail.{MailData, mail_in}
use Rattle.lt_world.specs.declared.network.Network.{Network}
use Rattle.lt_world.specs.declared.reserved.Reserved.{Reserved}
use Rattle.lt_world.specs.declared.reserved.Reserved.TheVariants.{Acting, Taking}

-- what contracts see of a world: its script, how many moves a node may make, and the run so far
pub record WorldData : Type 0 where
  pub script : ScriptData
  pub limit : ℕ
  pub run : List Logged

-- the world after the moves made so far
abbrev pub world_of : WorldData → World
world_of w = world_after w.script w.run

-- a client of the script that can act now
abbrev pub IsRunnable : WorldData → ℕ → Type 0
IsRunnable w client =
    (client < length w.script.clients) × IsTrue (is_runnable w.script (world_of w) client)

abbrev pub no_script : ScriptData
no_script = record { version = 1; nodes = 0; sets = []; clients = []; commands = [] }

abbrev pub node_of_none : NodeData
node_of_none = record { script = no_script; gone = 0; me = 0; clock = 0; made = []; cores = [] }

abbrev pub node_at : List NodeData → ℕ → NodeData
node_at nodes q = slice_index_or nodes q node_of_none

-- the code's node is node q of the script, in this state
pub record IsNodeOf (script : ScriptData) (q : ℕ) (state : NodeState) (n : NodeData) : Type 0 where
  pub script_is : n.script ≡ script
  pub me : n.me ≡ q
  pub state_is : state_of n ≡ state

-- node q may have other memory, and nothing else changed
pub record OnlyMemory (q : ℕ) (old new : List NodeData) : Type 0 where
  pub others : new ≡ slice_set old q (node_at new q)
  pub node : SameNode (node_at old q) (node_at new q)

-- there is room for what a node sends out, for which out has room
pub record InboxRoom (inboxes : MailData) (run : RunData) (out : OutData) : Type 0 where
  pub letters : out.post_room ≤ inboxes.free
  pub move : 1 ≤ run.spare
  pub lines : out.event_room ≤ run.room

-- the nodes and the letters on their way are those of this world
pub record IsWorld (script : ScriptData) (nodes : List NodeData) (inboxes : MailData) (w : World) : Type 0 where
  pub node_count : length nodes ≡ script.nodes
  pub nodes_are : (q : ℕ) → q < script.nodes → IsNodeOf script q (w.node q) (node_at nodes q)
  pub receivers : inboxes.nodes ≡ script.nodes
  pub mail_is : (p q : ℕ) → p < script.nodes → q < script.nodes → mail_in inboxes p q ≡ w.mail p q

-- the world after this run of the script, between two moves
pub record Holds (script : ScriptData) (nodes : List NodeData) (inboxes : MailData) (out : OutData) (run : List Logged) : Type 0 where
  pub is_script : IsScript script
  pub world : IsWorld script nodes inboxes (world_after script run)
  pub no_posts : out.posts ≡ []
  pub no_events : out.events ≡ []
  pub is_run : IsRun script run

-- before an enabled move of node q, once it is prepared: a letter that it takes is on its way no more
pub record IsOpened (script : ScriptData) (q : ℕ) (step : Step) (nodes : List NodeData) (inboxes : MailData) (out : OutData) (run : List Logged) : Type 0 where
  pub is_script : IsScript script
  pub is_run : IsRun script run
  pub enabled : IsTrue (is_enabled script (world_after script run) q step)
  pub few : length run + 1 < 2 ^ 62
  pub world : IsWorld script nodes inboxes (opened (world_after script run) q step)
  pub no_posts : out.posts ≡ []
  pub no_events : out.events ≡ []

-- how many moves each node has made, which are no more than it may make
pub record AreCounted (script : ScriptData) (limit : ℕ) (moves : List ℕ) (run : List Logged) : Type 0 where
  pub count : length moves ≡ script.nodes
  pub moves_are : (q : ℕ) → q < script.nodes → slice_index_or moves q 0 ≡ moves_of q run
  pub within : (q : ℕ) → q < script.nodes → moves_of q run ≤ limit
  pub all : sum_below script.nodes (λ q. moves_of q run) ≡ length run
  pub small : limit ≤ MAX_MOVES

-- none of the nodes has made more than so many moves
abbrev pub AreAtMost : ScriptData → ℕ → List Logged → Type 0
AreAtMost script most run = (q : ℕ) → q < script.nodes → moves_of q run ≤ most

-- the number of commands that the client has made, where it can make one more now
abbrev pub turn_of : ScriptData → World → ℕ → Option ℕ
turn_of script w client = if is_runnable script w client then Some (made_by script w client) else None

-- which clients can act, each with the number of commands that it has made
pub record AreTurns (script : ScriptData) (turns : List (Option ℕ)) (w : World) : Type 0 where
  pub count : length turns ≡ length script.clients
  pub turns_are : (c : ℕ) → c < length script.clients → slice_index_or turns c None ≡ turn_of script w c

pub record Stands (script : ScriptData) (limit most : ℕ) (nodes : List NodeData) (inboxes : MailData) (moves : List ℕ) (turns : List (Option ℕ)) (out : OutData) (run : List Logged) : Type 0 where
  pub holds : Holds script nodes inboxes out run
  pub counted : AreCounted script limit moves run
  pub at_most : AreAtMost script most run
  pub acts : AreTurns script turns (world_after script run)

-- Whether a lock of a client in one mode stands against a mode.

-- the client holds a lock of the set in its own mode, with which the mode conflicts
abbrev pub bars_by_lock : WorldData → ℕ → Mode → ℕ → Mode → Bool
bars_by_lock w set mode client own =
    conflicts mode own && nat_lt 0 (count_of (state_at (world_of w) set (home w.script client)).held client own)

-- The nodes, the letters on their way and the run, between two moves.

-- all stand as they are after the moves of the run
abbrev pub IsAfterRun : ScriptData → Network → Type 0
IsAfterRun script n = Holds script n.nodes.items n.inboxes n.out n.run.entries

-- the world after these moves
abbrev pub world_in : ScriptData → Network → World
world_in script n = world_after script n.run.entries

-- the run with this move more
abbrev pub run_with : ScriptData → List Logged → ℕ → Step → List Logged
run_with script run node step = run ++ logged script (world_after script run) node step ∷ []

-- A move for which room was made.

abbrev pub step_of : Reserved → Step
step_of (Acting client) = steps.Act client
step_of (Taking sender letter) = steps.Take sender

-- the node has room for the move; a letter in hand is the front one of its sender, and can go back
abbrev pub NodeRoom : World → ℕ → List NodeData → MailData → OutData → Reserved → Type 0
NodeRoom w q nodes inboxes out (Acting client) = RoomToAct client (node_at nodes q) out
NodeRoom w q nodes inboxes out (Taking sender letter) =
    RoomToTake (node_at nodes q) letter out × (w.mail sender q ≡ letter_seen letter ∷ mail_in inboxes sender q)
    × (0 < inboxes.free)

-- all stand as they are after the moves of the run, with room for an enabled move of node q
pub record IsReserved (script : ScriptData) (n : Network) (q : ℕ) (reserved : Reserved) : Type 0 where
  pub opened : IsOpened script q (step_of reserved) n.nodes.items n.inboxes n.out n.run.entries
  pub room : NodeRoom (world_in script n) q n.nodes.items n.inboxes n.out reserved
  pub send : InboxRoom n.inboxes n.run n.out

-- Which clients can act after a move: those that it doesn't name as before it.

-- the lines of the last move
abbrev pub lines_of_last_move : List Logged → List Event
lines_of_last_move run = unwrap_or (events_at run (length run - 1)) []

-- none of the lines from place k on names the client
abbrev pub NoneNames : ℕ → List Event → ℕ → Type 0
NoneNames client lines k =
    (j : ℕ) (d : Event) → k ≤ j → j < length lines → line_client (slice_index_or lines j d) ≢ Some client

-- each client has its turn in this world, but for the one whose command the step is, and those that the lines from place k
-- on name
abbrev pub OthersStand : ScriptData → List (Option ℕ) → World → Step → List Event → ℕ → Type 0
OthersStand script turns w step lines k =
    (c : ℕ) → c < length script.clients → step ≢ Act c → NoneNames c lines k
    → slice_index_or turns c None ≡ turn_of script w c

-- the turns, with that of the client as it is in this world
abbrev pub with_turn : ScriptData → World → Option ℕ → List (Option ℕ) → List (Option ℕ)
with_turn script w None turns = turns
with_turn script w (Some client) turns = slice_set turns client (turn_of script w client)

-- the step is a command of the client
abbrev pub is_act_of : Step → ℕ → Bool
is_act_of (steps.Act actor) client = actor == client
is_act_of (steps.Take sender) client = false

-- the client that a line names, unless the step is a command of this client
abbrev pub other_named : Step → Option ℕ → Option ℕ
other_named step None = None
other_named step (Some client) = if is_act_of step client then None else Some client

-- When a node can make a move.

-- the node can make the client's next command
pub record CanAct (n : NodeData) (client : ℕ) : Type 0 where
  pub client_is : client < length n.script.clients
  pub at_home : home n.script client ≡ n.me
  pub runnable : IsTrue (is_free_at n.script (state_of n) client && has_command n.script (state_of n) client)
  pub within : IsTrue (leaves_room_to_act n.script (state_of n) client)
  pub clock : n.clock + 1 < 2 ^ 62

-- the node can take the letter
pub record CanTake (n : NodeData) (letter : Letter) : Type 0 where
  pub fits_here : IsTrue (fits (numbers_of n.script) n.me n.clock ((state_of n).set letter.set) letter)
  pub within : IsTrue (leaves_room_to_take (state_of n) letter)
  pub clock : n.clock + 1 < 2 ^ 62
  pub stamp : letter.stamp.clock + 1 < 2 ^ 62
