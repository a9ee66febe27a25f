-- A command that is submitted at its station, which makes turns until it is answered.
use Rattle.std.specs.Prelude.{◌≡◌, ◌<◌, ◌+◌, ◌++◌, ◌∷◌, ◌⊎◌, [], ℕ, zero, suc}
use Rattle.rtrb.specs.Ring.{known_free}
use Rattle.lt_modes.specs.declared.command.Command.{Command}
use Rattle.lt_runner.specs.declared.turning.Turned.{Turned}
use Rattle.lt_runner.specs.declared.turning.Turned.TheVariants as turns
use Rattle.lt_live.specs.declared.ends.Session.{Session}
use Rattle.lt_live.specs.declared.obeying.Obeyed.{Obeyed}
use Rattle.lt_live.specs.declared.obeying.Obeyed.TheVariants.{Refused, Told, Waits, Full, NoMemory}
use Rattle.lt_live.specs.declared.obeying.TheConstants.{MOST_TURNS}
use Rattle.lt_live.specs.Stations.{StationData, StationTurns}
use Rattle.lt_live.specs.Words.{submitted, polled, known_replies}

-- the station made a turn
abbrev pub MakesTurn : Turned → StationData → StationData → Type 0
MakesTurn turned a b = StationTurns turned a.runner a.seats b.runner b.seats

-- it made n turns one after the other, and a move in each
abbrev pub MakesMoves : ℕ → StationData → StationData → Type 0
MakesMoves zero a b = b ≡ a
MakesMoves (suc n) a c = (b : StationData) × MakesMoves n a b × MakesTurn turns.Moved b c

-- nothing was submitted here, and no reply was polled
pub record KeepsCommands (s t : Session) : Type 0 where
  pub submitted : submitted t ≡ submitted s
  pub left : t.left ≡ s.left

-- no reply came that is known
pub record PollsNone (s t : Session) : Type 0 where
  pub polled : polled t ≡ polled s
  pub none : known_replies t ≡ []

-- one turn was made, and then the reply was polled, or the turn made no move
abbrev pub StopsBy : Obeyed → Turned → Session → Session → Type 0
StopsBy Refused turned s t = ⊥
StopsBy (Told reply) turned s t = polled t ≡ polled s ++ reply ∷ []
StopsBy Waits turned s t = PollsNone s t × (turned ≡ turns.Quiet)
StopsBy Full turned s t = PollsNone s t × (turned ≡ turns.Full)
StopsBy NoMemory turned s t = PollsNone s t × (turned ≡ turns.NoMemory)

pub record StopsTurning (obeyed : Obeyed) (s t : Session) (a b : StationData) : Type 0 where
  pub keeps : KeepsCommands s t
  pub turned : Turned
  pub turn : MakesTurn turned a b
  pub stops : StopsBy obeyed turned s t

-- one turn was made, and a move in it, and no reply is known
pub record GoesOnTurning (s t : Session) (a b : StationData) : Type 0 where
  pub keeps : KeepsCommands s t
  pub turn : MakesTurn turns.Moved a b
  pub polls : PollsNone s t

-- fewer turns than there may be made a move each, and no reply came; then one more turn ended it
pub record EndsInTurn (obeyed : Obeyed) (s t : Session) (a c : StationData) : Type 0 where
  pub before : ℕ
  pub few : before < MOST_TURNS
  pub b : StationData
  pub moves : MakesMoves before a b
  pub last : StopsTurning obeyed s t b c

-- as many turns as there may be made a move each, and no reply came
pub record RunsOut (obeyed : Obeyed) (s t : Session) (a c : StationData) : Type 0 where
  pub waits : obeyed ≡ Waits
  pub keeps : KeepsCommands s t
  pub count : ℕ
  pub all : count ≡ MOST_TURNS
  pub moves : MakesMoves count a c
  pub polls : PollsNone s t

-- the one or the other
abbrev pub ObeyTurns : Obeyed → Session → Session → StationData → StationData → Type 0
ObeyTurns obeyed s t a c = EndsInTurn obeyed s t a c ⊎ RunsOut obeyed s t a c

-- nothing happened, since the ring has no place
pub record IsTurnedAway (s t : Session) (a b : StationData) : Type 0 where
  pub full : known_free t.commands ≡ 0
  pub keeps : KeepsCommands s t
  pub polled : polled t ≡ polled s
  pub known : known_replies t ≡ known_replies s
  pub station : b ≡ a

-- the command was submitted
pub record IsGivenCommand (command : Command) (s t : Session) : Type 0 where
  pub submitted : submitted t ≡ submitted s ++ command ∷ []
  pub left : t.left + 1 ≡ s.left
  pub polled : polled t ≡ polled s
  pub known : known_replies t ≡ known_replies s

-- and then turns were made
pub record IsObeyed (obeyed : Obeyed) (command : Command) (s u : Session) (a b : StationData) : Type 0 where
  pub t : Session
  pub submits : IsGivenCommand command s t
  pub turns : ObeyTurns obeyed t u a b

-- the ring had no place for the command, or it was submitted, and turns were made until it ended so
abbrev pub Obeys : Obeyed → Command → Session → Session → StationData → StationData → Type 0
Obeys Refused command s t a b = IsTurnedAway s t a b
Obeys obeyed command s t a b = IsObeyed obeyed command s t a b
