-- Which nodes a node's links, asks and letters name.
use Rattle.std.specs.Prelude.{◌≢◌, ◌≤◌, ◌<◌, ℕ, length, IfSome, All, IsTrue, ◌≡◌, false, List, Some, AllPairs}
use Rattle.lt_modes.specs.declared.parts.Hoped.{Hoped}
use Rattle.lt_modes.specs.State.{SetState, Desk, Post, Letter, Made}
use Rattle.lt_modes.specs.Serving.{queue_of}
use Rattle.lt_modes.specs.Waiting.{waits}
use Rattle.lt_modes.specs.Script.{ScriptData}
use Rattle.lt_modes.specs.Fits.{fits, numbers_of, Numbers, is_known, asks_here, body_fits}
use Rattle.lt_modes.specs.declared.mode.Mode.{Mode}
use Rattle.lt_modes.specs.declared.stamp.Stamp.{Stamp}
use Rattle.lt_modes.specs.declared.ask.Ask.{Ask}
use Rattle.lt_modes.specs.declared.event.Event.{Event}
use Rattle.lt_modes.specs.Sound.{SoundSet}
use Rattle.lt_modes.specs.SetMove.{finish, lock, try, unlock, change, drop, withdraw}
use Rattle.lt_modes.specs.Taking.{take}
use Rattle.lt_spec.specs.NodeMove.{NodeState, NodeMade, node_act, node_take, node_waits, act_stamp, take_stamp}
use Rattle.lt_spec.specs.World.{start, line_client}
use Rattle.lt_model.specs.Invariant.{IsNamed, IsParkedNamed}

-- the letter is for another node of the script
pub record IsForPeer (nodes me : ℕ) (post : Post) : Type 0 where
  pub node : post.to < nodes
  pub other : post.to ≢ me

-- asks here, links, and the desk's entries name nodes of the script; a hoped link names another node
pub record NamesNodes (nodes me : ℕ) (s : SetState) : Type 0 where
  pub queue : All (IsNamed nodes) (queue_of s)
  pub parked : All (IsParkedNamed nodes) s.parked
  pub firm : s.firm.node < nodes
  pub hoped : IfSome s.hoped (λ (link : Hoped). (link.node < nodes) × (link.node ≢ me))
  pub entries : IfSome s.desk (λ (desk : Desk). length desk.entries ≤ nodes)

-- so it is in each set
abbrev pub NodeNames : ℕ → ℕ → NodeState → Type 0
NodeNames nodes me n = (s : ℕ) → NamesNodes nodes me (n.set s)

-- A node sends letters to other nodes of the script alone, as statements.

-- the node that a move made names nodes of the script, and its letters are for other nodes of it
pub record ReachesPeers (nodes me : ℕ) (made : NodeMade) : Type 0 where
  pub node : NodeNames nodes me made.node
  pub posts : All (IsForPeer nodes me) made.posts

abbrev pub NamesAtStart : Type 0
NamesAtStart = (script : ScriptData) (q : ℕ) → q < script.nodes → NodeNames script.nodes q ((start script).node q)

abbrev pub ActsReachPeers : Type 0
ActsReachPeers = (script : ScriptData) (q client : ℕ) (n : NodeState) → q < script.nodes → NodeNames script.nodes q n
    → ReachesPeers script.nodes q (node_act script q client n)

abbrev pub TakesReachPeers : Type 0
TakesReachPeers = (script : ScriptData) (q clock : ℕ) (letter : Letter) (n : NodeState) → q < script.nodes → NodeNames script.nodes q n
    → IsTrue (fits (numbers_of script) q clock (n.set letter.set) letter)
    → ReachesPeers script.nodes q (node_take q letter n)

-- Whom a move makes wait, or lets go on: clients that its lines name, and no others.

-- no line names the client as the one that acts or is answered
abbrev pub AreOfOthers : ℕ → List Event → Type 0
AreOfOthers client lines = All (λ (line : Event). line_client line ≢ Some client) lines

-- before a move with this stamp: each ask of its node that is here is unanswered, and the unanswered ones have stamps of
-- their own, all earlier
pub record OwnAsksKnown (stamp : Stamp) (s : SetState) : Type 0 where
  pub known : All (λ (ask : Ask). IsTrue (is_known stamp.node s ask)) (asks_here s)
  pub apart : AllPairs (λ (a b : Ask). a.stamp ≢ b.stamp) s.pending
  pub earlier : All (λ (ask : Ask). ask.stamp.clock < stamp.clock) s.pending

-- a client that no line names waits in the set if it did before
abbrev pub OthersWaitAsBefore : SetState → Made → Type 0
OthersWaitAsBefore s m = (client : ℕ) → AreOfOthers client m.events → waits m.state client ≡ waits s client

-- so it is of each move that a client's command makes of a set
pub record CommandsLeaveOthers (set : ℕ) (stamp : Stamp) (s : SetState) : Type 0 where
  pub locks : (client : ℕ) (mode : Mode) → OthersWaitAsBefore s (lock set stamp client mode s)
  pub tries : (client : ℕ) (mode : Mode) → OthersWaitAsBefore s (try set stamp client mode s)
  pub unlocks : (client : ℕ) (mode : Mode) → OthersWaitAsBefore s (unlock set stamp client mode s)
  pub changes : (client : ℕ) (gives_up mode : Mode) → OthersWaitAsBefore s (change set stamp client gives_up mode s)
  pub drops : (client : ℕ) → OthersWaitAsBefore s (drop set stamp client s)
  pub withdraws : (client whose : ℕ) → OthersWaitAsBefore s (withdraw set stamp client whose s)
  pub finishes : OthersWaitAsBefore s (finish set stamp s)

abbrev pub WaitingInCommands : Type 0
WaitingInCommands = (set : ℕ) (stamp : Stamp) (s : SetState) → OwnAsksKnown stamp s → CommandsLeaveOthers set stamp s

-- and of a take, where what the letter says fits the set
abbrev pub WaitingInTakes : Type 0
WaitingInTakes = (numbers : Numbers) (stamp : Stamp) (letter : Letter) (s : SetState) → OwnAsksKnown stamp s
    → IsTrue (body_fits numbers stamp.node s letter.stamp.clock letter.body) → OthersWaitAsBefore s (take stamp letter s)

-- the client waits in the later state of a node for what it waited for, and has made as many commands
pub record SameClient (script : ScriptData) (n later : NodeState) (client : ℕ) : Type 0 where
  pub in_each : (s : ℕ) → s < length script.sets → waits (later.set s) client ≡ waits (n.set s) client
  pub in_some : node_waits script later client ≡ node_waits script n client
  pub made : later.made client ≡ n.made client

-- the asks of the node are known in each set
abbrev pub EachAsksKnown : ScriptData → Stamp → NodeState → Type 0
EachAsksKnown script stamp n = (s : ℕ) → s < length script.sets → OwnAsksKnown stamp (n.set s)

-- a command of one client leaves another one, which no line names, as it was
abbrev pub WaitingInActs : Type 0
WaitingInActs = (script : ScriptData) (q client other : ℕ) (n : NodeState) → EachAsksKnown script (act_stamp q n) n → other ≢ client
    → AreOfOthers other (node_act script q client n).events → SameClient script n (node_act script q client n).node other

-- and so does the take of a letter that fits
abbrev pub WaitingInNodeTakes : Type 0
WaitingInNodeTakes = (script : ScriptData) (numbers : Numbers) (q other : ℕ) (letter : Letter) (n : NodeState)
    → EachAsksKnown script (take_stamp q n letter) n
    → IsTrue (body_fits numbers q (n.set letter.set) letter.stamp.clock letter.body)
    → AreOfOthers other (node_take q letter n).events → SameClient script n (node_take q letter n).node other

-- where a set is sound, the asks are known before each later move
abbrev pub KnownWhereSound : Type 0
KnownWhereSound = (numbers : Numbers) (clock : ℕ) (stamp : Stamp) (s : SetState) → SoundSet numbers stamp.node false false clock s
    → clock < stamp.clock → OwnAsksKnown stamp s
