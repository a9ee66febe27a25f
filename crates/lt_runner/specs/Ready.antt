-- Room for one move of a runner.
use Rattle.std.specs.Prelude.{◌≤◌, ◌<◌, ℕ, IfSome, IsTrue, ◌≡◌, [], None}
use Rattle.lt_modes.specs.Script.{ScriptData}
use Rattle.lt_modes.specs.Fits.{fits, numbers_of}
use Rattle.lt_spec.specs.NodeMove.{NodeState}
use Rattle.lt_spec.specs.World.{start}
use Rattle.lt_desk.specs.LetterSeen.{letter_seen}
use Rattle.lt_node.specs.NodeData.{RoomToTake, state_of}
use Rattle.lt_node.specs.Touched.{RoomToAct, leaves_room_to_take}
use Rattle.lt_mail.specs.Words.{HasRoomFor}
use Rattle.lt_mail.specs.declared.mail.Mail.{Mail}
use Rattle.lt_runner.specs.declared.choice.Choice.{Choice}
use Rattle.lt_runner.specs.declared.choice.Choice.TheVariants.{Nothing, Act, Take}
use Rattle.lt_runner.specs.Choices.{has_time}
use Rattle.lt_runner.specs.declared.parts.Hand.{Hand}
use Rattle.lt_runner.specs.declared.parts.Parts.{Parts}

-- the log and the outboxes have room for all that a move may send out
pub record CanLog (p : Parts) : Type 0 where
  pub move : 0 < p.log.spare
  pub events : p.out.event_room ≤ p.log.room
  pub posts : HasRoomFor p.mail p.out.post_room

-- and the node has room for the client's next command
pub record RunnerCanAct (client : ℕ) (p : Parts) : Type 0 where
  pub log : CanLog p
  pub node : RoomToAct client p.node p.out

-- or for the letter in hand
pub record RunnerCanTake (p : Parts) : Type 0 where
  pub log : CanLog p
  pub node : IfSome p.hand (λ (hand : Hand). RoomToTake p.node hand.letter p.out)

-- there is memory for the move
abbrev pub HasMemoryFor : Choice → Parts → Type 0
HasMemoryFor Nothing p = Unit {0}
HasMemoryFor (Act client) p = RunnerCanAct client p
HasMemoryFor Take p = RunnerCanTake p

-- there is time, the letter fits, and its set leaves room for it
pub record FitsNow (script : ScriptData) (me : ℕ) (n : NodeState) (hand : Hand) : Type 0 where
  pub time : IsTrue (has_time n)
  pub fits : IsTrue (fits (numbers_of script) me n.clock (n.set hand.letter.set) (letter_seen hand.letter))
  pub room : IsTrue (leaves_room_to_take n (letter_seen hand.letter))

-- A runner at its start.

-- it is that of the node, in its first state, with this mail and this limit
pub record StartsWith (script : ScriptData) (node : ℕ) (mail : Mail) (limit : ℕ) (p : Parts) : Type 0 where
  pub script_is : p.node.script ≡ script
  pub me : p.node.me ≡ node
  pub state : state_of p.node ≡ (start script).node node
  pub mail_is : p.mail ≡ mail
  pub limit_is : p.limit ≡ limit
  pub log : p.log.entries ≡ []
  pub gone : p.log.gone ≡ 0
  pub hand : p.hand ≡ None
