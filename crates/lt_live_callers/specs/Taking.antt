-- Commands that come to their stations.
use Rattle.std.specs.Prelude.{◌≡◌, ◌≢◌, ◌≤◌, ◌<◌, ◌+◌, ◌-◌, ℕ, Bool, true, false, List, [], Some, length, slice_get, sum_by}
use mathlib.Core.List.{IsPrefix}
use Rattle.lt_modes.specs.Script.{ScriptData}
use Rattle.lt_spec.specs.declared.limits.TheConstants.{MAX_COMMANDS_OF_SERVICE}
use Rattle.lt_spec.specs.NodeMove.{commands_of, home}
use Rattle.lt_spec.specs.Script.{IsScript}
use Rattle.lt_runner.specs.declared.turning.Turned.{Turned}
use Rattle.lt_runner.specs.declared.turning.Turned.TheVariants.{NoMemory}
use Rattle.lt_runner.specs.declared.parts.Parts.{Parts}
use Rattle.lt_runner.specs.Kept.{HasAll}
use Rattle.lt_live.specs.declared.ends.Seat.{Seat}
use Rattle.lt_live.specs.declared.ends.Session.{Session}
use Rattle.lt_live.specs.Seats.{KnowAll}
use Rattle.lt_live.specs.Words.{submitted, taken, outbox_replies, AreTwoEnds}
use Rattle.lt_live.specs.Live.{AreLive, GoesOn, StationGoesOn, EachStation, EachSession, SaysSame}
use Rattle.lt_live.specs.Stations.{StationData, IsStation, StationTurns, StaySeated, EachSeat, equal_share}
use Rattle.lt_live_callers.specs.Refused.{NamesAll}

-- the station of the client's node has appended all that the session submitted
abbrev pub HasTakenAll : ScriptData → List StationData → ℕ → Session → Type 0
HasTakenAll script stations client s = (station : StationData) → slice_get stations (home script client) ≡ Some station
    → commands_of station.runner.node.script client ≡ submitted s

-- so it is of each session
abbrev pub HaveTakenAll : ScriptData → List StationData → List Session → Type 0
HaveTakenAll script stations sessions = (client : ℕ) (s : Session) → slice_get sessions client ≡ Some s
    → HasTakenAll script stations client s

-- the script has, of each client, all that its session submitted
abbrev pub AreAllAppended : ScriptData → List Session → Type 0
AreAllAppended script sessions = (client : ℕ) (s : Session) → slice_get sessions client ≡ Some s
    → commands_of script client ≡ submitted s

-- What stations do meanwhile.

-- no reply waits at this seat for a place in its ring
abbrev pub NoneWaitsAt : ℕ → List Seat → Type 0
NoneWaitsAt place seats = (seat : Seat) → slice_get seats place ≡ Some seat → outbox_replies seat ≡ []

-- the runner of the same node, which has made further moves and was given further commands
pub record GoesFurther (a b : Parts) : Type 0 where
  pub goes : GoesOn a b
  pub log : IsPrefix a.log.entries b.log.entries
  pub commands : IsPrefix a.node.script.commands b.node.script.commands

-- the station of the same node, where all sessions keep their other ends; it has forgotten nothing if it had not
-- before, and where no reply waited none does
pub record StationTakesOn (a b : StationData) : Type 0 where
  pub goes : StationGoesOn a b
  pub further : GoesFurther a.runner b.runner
  pub has_all : HasAll a.runner → HasAll b.runner
  pub waits : (place : ℕ) → NoneWaitsAt place a.seats → NoneWaitsAt place b.seats

-- no reply waits at the session's seat
abbrev pub HearsAll : ScriptData → List StationData → ℕ → Session → Type 0
HearsAll script stations client s = (station : StationData) → slice_get stations (home script client) ≡ Some station
    → NoneWaitsAt s.place station.seats

-- the session's share is no more than all may have, what it submitted names what it may, and no reply waits for it
pub record IsAsking (script : ScriptData) (stations : List StationData) (client : ℕ) (s : Session) : Type 0 where
  pub share : s.share ≤ equal_share script
  pub names : NamesAll s
  pub hears : HearsAll script stations client s

-- the stations of all nodes and the sessions of all clients, in order, and each is so
pub record AreAsking (script : ScriptData) (stations : List StationData) (sessions : List Session) : Type 0 where
  pub live : AreLive script stations sessions
  pub each : (client : ℕ) (s : Session) → slice_get sessions client ≡ Some s → IsAsking script stations client s

-- the stations went on, while nothing was submitted and nothing polled
pub record OnlyTakes (script : ScriptData) (stations : List StationData) (sessions : List Session)
    (later : List StationData) (after : List Session) : Type 0 where
  pub asking : AreAsking script later after
  pub serves : EachStation StationTakesOn stations later
  pub says : EachSession SaysSame sessions after

-- Looks at the rings.

-- the session and its seat know all that is in their rings
pub record SessionIsBeside (script : ScriptData) (stations : List StationData) (client : ℕ) (s : Session) : Type 0 where
  pub station : StationData
  pub here : slice_get stations (home script client) ≡ Some station
  pub seat : Seat
  pub at : slice_get station.seats s.place ≡ Some seat
  pub link : AreTwoEnds s seat
  pub beside : KnowAll s seat

-- so it is of the first n sessions
abbrev pub SessionsBesideTo : ScriptData → ℕ → List StationData → List Session → Type 0
SessionsBesideTo script n stations sessions = (client : ℕ) (s : Session) → client < n → slice_get sessions client ≡ Some s
    → SessionIsBeside script stations client s

-- the seat took no command, and has the same in hand
pub record SeatKeepsHand (s t : Seat) : Type 0 where
  pub client : t.client ≡ s.client
  pub hand : t.hand ≡ s.hand
  pub taken : taken t ≡ taken s

-- the station's seats looked at their rings
pub record StationOnlyLooks (a b : StationData) : Type 0 where
  pub runner : b.runner ≡ a.runner
  pub stay : StaySeated a.seats b.seats
  pub hands : EachSeat SeatKeepsHand a.seats b.seats

-- the first n sessions and their seats looked at their rings
pub record SessionsLook (script : ScriptData) (n : ℕ) (stations : List StationData) (sessions : List Session)
    (later : List StationData) (after : List Session) : Type 0 where
  pub all : OnlyTakes script stations sessions later after
  pub looks : EachStation StationOnlyLooks stations later
  pub beside : SessionsBesideTo script n later after

-- the session of this client and its seat did
pub record SessionLooks (script : ScriptData) (client : ℕ) (stations : List StationData) (sessions : List Session)
    (later : List StationData) (after : List Session) : Type 0 where
  pub all : OnlyTakes script stations sessions later after
  pub looks : EachStation StationOnlyLooks stations later
  pub one : (s : Session) → slice_get after client ≡ Some s → SessionIsBeside script later client s
  pub others : (k : ℕ) (s : Session) → k ≢ client → slice_get after k ≡ Some s
      → (slice_get sessions k ≡ Some s) × (SessionIsBeside script stations k s → SessionIsBeside script later k s)

-- StationTakesTurn.

-- how many commands the station has appended
abbrev pub commands_at : StationData → ℕ
commands_at station = length station.runner.node.script.commands

-- how many moves and commands more it may have, and so all stations together
abbrev pub room_at : StationData → ℕ
room_at station =
    (station.runner.limit - length station.runner.log.entries) + (MAX_COMMANDS_OF_SERVICE - commands_at station)

abbrev pub all_room : List StationData → ℕ
all_room stations = sum_by room_at stations

-- it is a station, and what it appended makes up a script
pub record IsKeptStation (station : StationData) : Type 0 where
  pub is_station : IsStation station.runner station.seats
  pub is_script : IsScript station.runner.node.script

-- after a turn the station has less room, or it has appended nothing
abbrev pub TurnLeaves : Bool → StationData → StationData → Type 0
TurnLeaves true a b = room_at b < room_at a
TurnLeaves false a b = commands_at b ≡ commands_at a

-- the station made a turn, for which there was memory
pub record StationTakesTurn (more : Bool) (a b : StationData) : Type 0 where
  pub turned : Turned
  pub fits : turned ≢ NoMemory
  pub turns : StationTurns turned a.runner a.seats b.runner b.seats
  pub goes : StationGoesOn a b
  pub before : IsKeptStation a
  pub now : IsKeptStation b
  pub leaves : TurnLeaves more a b

-- the station at this place did, and the others stay
pub record StationTakesTurnAt (more : Bool) (place : ℕ) (old new : List StationData) : Type 0 where
  pub x : StationData
  pub y : StationData
  pub before : slice_get old place ≡ Some x
  pub now : slice_get new place ≡ Some y
  pub one : StationTakesTurn more x y
  pub count : length new ≡ length old
  pub others : (k : ℕ) → k ≢ place → slice_get new k ≡ slice_get old k

-- each station did
abbrev pub StationMayTurn : StationData → StationData → Type 0
StationMayTurn a b = (more : Bool) × StationTakesTurn more a b

-- the station has appended as many as before
abbrev pub AppendsNothing : StationData → StationData → Type 0
AppendsNothing a b = commands_at b ≡ commands_at a

-- some station has less room
pub record SomeLess (old new : List StationData) : Type 0 where
  pub place : ℕ
  pub x : StationData
  pub y : StationData
  pub before : slice_get old place ≡ Some x
  pub now : slice_get new place ≡ Some y
  pub less : room_at y < room_at x

-- all stations made a turn; some has less room now, or none has appended a command
pub record AllStationsTurn (more : Bool) (old new : List StationData) : Type 0 where
  pub each : EachStation StationMayTurn old new
  pub some : more ≡ true → SomeLess old new
  pub none : more ≡ false → EachStation AppendsNothing old new
