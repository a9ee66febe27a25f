-- Commands that are known at a station, and those in its hands.
use Rattle.std.specs.Prelude.{◌≡◌, ℕ, List, [], ◌∷◌, ◌++◌, Some, None, true, slice_get}
use mathlib.Core.List.{IsPrefix}
use Rattle.lt_modes.specs.declared.command.Command.{Command}
use Rattle.lt_modes.specs.Script.{ScriptData}
use Rattle.lt_spec.specs.NodeMove.{home}
use Rattle.lt_spec.specs.Script.{IsScript}
use Rattle.lt_spec.specs.World.{Logged}
use Rattle.lt_runner.specs.declared.parts.Parts.{Parts}
use Rattle.lt_live.specs.declared.ends.Session.{Session}
use Rattle.lt_live.specs.declared.ends.Seat.{Seat}
use Rattle.lt_live.specs.Words.{AreTwoEnds, taken, known_commands, taken_or_known, outbox_replies}
use Rattle.lt_live.specs.Submitting.{may_ask}
use Rattle.lt_live.specs.Seats.{IsSeat, KnowAll}
use Rattle.lt_live.specs.Stations.{StationData, IsStation, SeatLooks, SeatTurns, NoneCanAppend, may_append}
use Rattle.lt_live.specs.Live.{AreLive}

-- That a turn takes what is known, as laws.

-- what is known and isn't taken in a turn stays known
abbrev pub TurnsKeepKnown : Type 0
TurnsKeepKnown = (log : List Logged) (s t : Seat) → SeatTurns log s t → IsPrefix (taken_or_known s) (taken_or_known t)

-- where no command is in hand and no reply waits, a turn takes the first one that is known, and the others stay known
abbrev pub TurnTakesNext : Type 0
TurnTakesNext = (log : List Logged) (s t : Seat) (command : Command) (rest : List Command) → SeatTurns log s t
    → s.hand ≡ None → outbox_replies s ≡ [] → known_commands s ≡ command ∷ rest
    → (taken t ≡ taken s ++ command ∷ []) × IsPrefix rest (known_commands t)

-- Where sessions and seats have looked at their rings.

-- the session and its seat among these know all that is in their rings
pub record KnowsAllAt (s : Session) (seats : List Seat) : Type 0 where
  pub seat : Seat
  pub here : slice_get seats s.place ≡ Some seat
  pub link : AreTwoEnds s seat
  pub beside : KnowAll s seat

-- so do the sessions of all clients of node q
abbrev pub KnowAllAt : ScriptData → ℕ → List Session → List Seat → Type 0
KnowAllAt script q sessions seats =
    (client : ℕ) (s : Session) → slice_get sessions client ≡ Some s → home script client ≡ q → KnowsAllAt s seats

-- the station of node q is one of a live service, and what it keeps
pub record StandsAt (script : ScriptData) (stations : List StationData) (sessions : List Session) (q : ℕ)
    (station : StationData) : Type 0 where
  pub live : AreLive script stations sessions
  pub here : slice_get stations q ≡ Some station
  pub kept : IsStation station.runner station.seats
  pub is_script : IsScript station.runner.node.script

-- no command is in hand
abbrev pub NoneInHand : List Seat → Type 0
NoneInHand seats = (k : ℕ) (seat : Seat) → slice_get seats k ≡ Some seat → seat.hand ≡ None

-- That each command in hand can be appended, as laws.

-- once a session and its seat have looked, a command in hand was submitted, so that its client may ask for it
abbrev pub HandMayAsk : Type 0
HandMayAsk = (s : Session) (seat : Seat) (list : List Command) (log : List Logged) → IsSeat list log s.client seat
    → KnowAll s seat → (command : Command) → seat.hand ≡ Some command → may_ask s.script s.client command ≡ true

-- once those of all clients of a node have, each command in hand at its station can be appended
abbrev pub HandsCanAppend : Type 0
HandsCanAppend =
    (script : ScriptData) (stations : List StationData) (sessions : List Session) (q : ℕ) (station : StationData)
    → StandsAt script stations sessions q station → KnowAllAt script q sessions station.seats
    → (k : ℕ) (seat : Seat) (command : Command) → slice_get station.seats k ≡ Some seat → seat.hand ≡ Some command
    → may_append station.runner.node.script seat.client command ≡ true

-- what can't be appended after a turn can't be after a look
abbrev pub LooksLeaveHands : Type 0
LooksLeaveHands = (p : Parts) (s t : Session) (old new : List Seat) → SeatLooks p.log.entries s t old new
    → NoneCanAppend p old → NoneCanAppend p new

-- so none is in hand
abbrev pub NoneStaysInHand : Type 0
NoneStaysInHand =
    (script : ScriptData) (stations : List StationData) (sessions : List Session) (q : ℕ) (station : StationData)
    → StandsAt script stations sessions q station → KnowAllAt script q sessions station.seats
    → NoneCanAppend station.runner station.seats → NoneInHand station.seats
