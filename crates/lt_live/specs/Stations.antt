-- Stations.
use Rattle.std.specs.Prelude.{◌&&◌, Bool, ℕ, nat_lt, length, ◌≡◌, ◌≢◌, ◌<◌, ◌≤◌, ◌⊎◌, true, false, List, Some, None, slice_get, ◌/◌, [], map}
use mathlib.Core.List.{IsPrefix}
use Rattle.rtrb.specs.Ring.{producer_capacity}
use Rattle.lt_modes.specs.declared.command.Command.{Command}
use Rattle.lt_modes.specs.Script.{ScriptData}
use Rattle.lt_spec.specs.declared.limits.TheConstants.{MAX_COMMANDS, MAX_COMMANDS_OF_SERVICE}
use Rattle.lt_spec.specs.NodeMove.{commands_of, home, with_commands, AreAt}
use Rattle.lt_spec.specs.World.{Logged}
use Rattle.lt_log.specs.LogData.{LogData}
use Rattle.lt_mail.specs.Words.{Alike}
use Rattle.lt_runner.specs.declared.choice.Choice.TheVariants as choices
use Rattle.lt_runner.specs.declared.parts.Parts.{Parts}
use Rattle.lt_runner.specs.declared.turning.Turned.{Turned}
use Rattle.lt_runner.specs.declared.turning.Turned.TheVariants.{Moved, Quiet, Full, NoMemory}
use Rattle.lt_runner.specs.Choices.{next_choice}
use Rattle.lt_runner.specs.Kept.{AsSeen, CouldMove, Grew, TurnEnds, HasPassedOn, with_appended}
use Rattle.lt_threads.specs.Pushes.{IsFirstCrew}
use Rattle.lt_live.specs.declared.ends.Session.{Session}
use Rattle.lt_live.specs.declared.ends.Seat.{Seat}
use Rattle.lt_live.specs.Seats.{IsCursorOf, TakesIn, TellsSeat, HasReadOn, IsSeat, KnowAll, LooksBeside, HasToldAll, IsFullOfReplies}
use Rattle.lt_live.specs.Words.{known_replies, AreTwoEnds, submitted, polled, known_commands, outbox_replies, places}
use Rattle.lt_live.specs.declared.limits.TheConstants.{LETTER_PLACES}
use Rattle.lt_live.specs.Submitting.{may_ask}

-- the client may ask for the command, and there is a place for a command more
abbrev pub may_append : ScriptData → ℕ → Command → Bool
may_append script client command = nat_lt (length script.commands) MAX_COMMANDS_OF_SERVICE && may_ask script client command

-- What a station keeps, and what a turn of it does.

-- what runs a node, and its ends of the sessions of the node's clients
pub record StationData : Type 0 where
  pub runner : Parts
  pub seats : List Seat

-- the seat of a client of the runner's node: what was taken is the client's list in the runner's script, and then the
-- command in hand; what was told, and then what waits in the outbox, are its replies in the runner's log so far
pub record IsSeatOf (p : Parts) (seat : Seat) : Type 0 where
  pub client : seat.client < length p.node.script.clients
  pub home : home p.node.script seat.client ≡ p.node.me
  pub kept : IsSeat (commands_of p.node.script seat.client) p.log.entries seat.client seat
  pub places : 0 < producer_capacity seat.replies
  pub gone : p.log.gone ≤ seat.moves

-- each seat is one of the runner's, no two are of one client, and the script has commands of the runner's clients alone
pub record IsStation (p : Parts) (seats : List Seat) : Type 0 where
  pub each : (k : ℕ) (seat : Seat) → slice_get seats k ≡ Some seat → IsSeatOf p seat
  pub apart : (j k : ℕ) (x y : Seat) → slice_get seats j ≡ Some x → slice_get seats k ≡ Some y → x.client ≡ y.client → j ≡ k
  pub own : AreAt p.node.script p.node.me p.node.script.commands

-- no seat is of this client
abbrev pub AreOthers : ℕ → List Seat → Type 0
AreOthers client seats = (k : ℕ) (seat : Seat) → slice_get seats k ≡ Some seat → seat.client ≢ client

-- the seats at the same places go together
abbrev pub EachSeat : (Seat → Seat → Type 0) → List Seat → List Seat → Type 0
EachSeat R old new = (k : ℕ) → Alike R (slice_get old k) (slice_get new k)

-- the seat at this place went on so, and the others stay
pub record SeatAt (R : Seat → Seat → Type 0) (place : ℕ) (old new : List Seat) : Type 0 where
  pub x : Seat
  pub y : Seat
  pub before : slice_get old place ≡ Some x
  pub now : slice_get new place ≡ Some y
  pub one : R x y
  pub count : length new ≡ length old
  pub others : (k : ℕ) → k ≢ place → slice_get new k ≡ slice_get old k

-- the seat at this place was told of lines that the log has, and of all that it has forgotten
abbrev pub HasCursorAt : LogData → List Seat → ℕ → Type 0
HasCursorAt log seats k = (seat : Seat) → slice_get seats k ≡ Some seat → IsCursorOf log seat

abbrev pub HaveCursors : LogData → List Seat → Type 0
HaveCursors log seats = (k : ℕ) → HasCursorAt log seats k

-- the runner with other commands in its script, of whose clients it may know less
abbrev pub with_all : Parts → List (ℕ × Command) → Bool → Parts
with_all p commands idle = record p { node = record p.node { script = with_commands p.node.script commands }; idle = idle }

-- nothing happened but that commands were appended
pub record OnlyAppends (a b : Parts) : Type 0 where
  pub runner : b ≡ with_all a b.node.script.commands b.idle
  pub commands : IsPrefix a.node.script.commands b.node.script.commands

-- the command in hand, if there is one, can't be appended
abbrev pub CanNotAppend : Parts → Seat → Type 0
CanNotAppend p seat = (command : Command) → seat.hand ≡ Some command → may_append p.node.script seat.client command ≡ false

abbrev pub NoneCanAppend : Parts → List Seat → Type 0
NoneCanAppend p seats = (k : ℕ) (seat : Seat) → slice_get seats k ≡ Some seat → CanNotAppend p seat

-- a command is in hand that can be
abbrev pub CanAppend : Parts → Seat → Type 0
CanAppend p seat = (command : Command) × (seat.hand ≡ Some command) × (may_append p.node.script seat.client command ≡ true)

abbrev pub SomeCanAppend : Parts → List Seat → Type 0
SomeCanAppend p seats = (k : ℕ) × (seat : Seat) × (slice_get seats k ≡ Some seat) × CanAppend p seat

-- the command in hand became the last one of the client's list
pub record HandsCommandOver (s : Seat) (a : Parts) (t : Seat) (b : Parts) : Type 0 where
  pub command : Command
  pub hand : s.hand ≡ Some command
  pub seat : t ≡ record s { hand = None }
  pub runner : b ≡ with_appended a s.client command

-- it did, or nothing happened
abbrev pub MayHandOver : Seat → Parts → Seat → Parts → Type 0
MayHandOver s a t b = HandsCommandOver s a t b ⊎ ((t ≡ s) × (b ≡ a))

-- the command in hand may be gone
abbrev pub HandMayGo : Seat → Seat → Type 0
HandMayGo s t = (t ≡ record s { hand = None }) ⊎ (t ≡ s)

-- how one move of the runner came out; where memory ran out none was made, and it was wanted for a move that is there to be made,
-- or for a command in hand
abbrev pub MoveEnds : Turned → Parts → Parts → List Seat → Type 0
MoveEnds Moved a b seats = TurnEnds Moved a b
MoveEnds Quiet a b seats = TurnEnds Quiet a b
MoveEnds Full a b seats = TurnEnds Full a b
MoveEnds NoMemory a b seats = AsSeen a b × (CouldMove b ⊎ SomeCanAppend b seats)

-- a command was taken into the hand where none was there, one was known and no reply waited in the outbox; then the one in
-- hand may be gone; and replies may have gone into the ring, those of the outbox first, of all lines of the log or until the
-- ring had no place
pub record SeatTurns (log : List Logged) (s t : Seat) : Type 0 where
  pub held : Seat
  pub left : Seat
  pub takes : TakesIn s held
  pub hand : HandMayGo held left
  pub tells : TellsSeat log left t

-- commands were appended, one move was made or none was found, and replies were told; where memory ran out no move was made,
-- and otherwise no command is in hand that can be appended, and each letter that was sent before is in its ring, or that
-- ring is full
pub record StationTurns (turned : Turned) (a : Parts) (seats : List Seat) (b : Parts) (later : List Seat) : Type 0 where
  pub between : Parts
  pub appends : OnlyAppends a between
  pub grew : Grew between b
  pub ends : MoveEnds turned between b later
  pub shown : turned ≢ NoMemory → next_choice between ≢ choices.Nothing → turned ≢ Quiet
  pub hands : turned ≢ NoMemory → NoneCanAppend b later
  pub passed : turned ≢ NoMemory → HasPassedOn a b
  pub each : EachSeat (SeatTurns b.log.entries) seats later

-- Moves that are forgotten.

-- the seat at this place has read all moves of the log
abbrev pub HasReadAt : List Logged → List Seat → ℕ → Type 0
HasReadAt log seats k = (seat : Seat) → slice_get seats k ≡ Some seat → seat.moves ≡ length log

abbrev pub HaveRead : List Logged → List Seat → Type 0
HaveRead log seats = (k : ℕ) → HasReadAt log seats k

-- all moves are forgotten, and no seat looks for them
pub record HasForgotten (p : Parts) (seats : List Seat) : Type 0 where
  pub gone : p.log.gone ≡ length p.log.entries
  pub read : HaveRead p.log.entries seats

-- nothing happened but that moves may have been forgotten, and replies of theirs put behind those that wait at the seats
pub record MayForget (a : Parts) (seats : List Seat) (b : Parts) (later : List Seat) : Type 0 where
  pub runner : b ≡ record a { log = b.log }
  pub entries : b.log.entries ≡ a.log.entries
  pub reads : EachSeat (HasReadOn a.log.entries) seats later

-- nothing happened but that commands may have been forgotten
abbrev pub ForgetsCommands : StationData → StationData → Type 0
ForgetsCommands a b = b ≡ record a { runner = record a.runner { node = record a.runner.node { gone = b.runner.node.gone } } }

-- the other end of the session is among these, at its place
pub record IsSeated (s : Session) (seats : List Seat) : Type 0 where
  pub seat : Seat
  pub here : slice_get seats s.place ≡ Some seat
  pub link : AreTwoEnds s seat

-- sessions keep their other ends
abbrev pub StaySeated : List Seat → List Seat → Type 0
StaySeated old new = (s : Session) → IsSeated s old → IsSeated s new

-- the session and its seat looked at their rings from both ends, and the other seats stay: all replies were told, or their
-- ring is full, so that the session knows one
pub record SeatLooks (log : List Logged) (s t : Session) (old new : List Seat) : Type 0 where
  pub x : Seat
  pub y : Seat
  pub before : slice_get old s.place ≡ Some x
  pub now : slice_get new s.place ≡ Some y
  pub link : AreTwoEnds t y
  pub beside : KnowAll t y
  pub looks : LooksBeside log s t x y
  pub stops : HasToldAll log y ⊎ IsFullOfReplies t y
  pub moves : HasToldAll log y ⊎ (0 < length (known_replies t))
  pub others : (k : ℕ) → k ≢ s.place → slice_get new k ≡ slice_get old k

-- Stations and sessions as they are opened.

-- the most commands that each session may submit: all together no more than a service may have
abbrev pub most_share : ScriptData → ℕ
most_share script = MAX_COMMANDS_OF_SERVICE / length script.clients

-- the most where all together are no more than the text of a script may have
abbrev pub equal_share : ScriptData → ℕ
equal_share script = MAX_COMMANDS / length script.clients

-- so it is of each
abbrev pub HaveEqualShares : List Session → Type 0
HaveEqualShares sessions = (client : ℕ) (s : Session) → slice_get sessions client ≡ Some s → s.share ≤ equal_share s.script

-- the client's session, which has its whole share: nothing was submitted and no reply came
pub record IsNewSession (script : ScriptData) (capacity most client : ℕ) (s : Session) : Type 0 where
  pub script_is : s.script ≡ script
  pub client_is : s.client ≡ client
  pub share : (s.share ≡ most) × (s.left ≡ most)
  pub places : places s ≡ capacity
  pub commands : submitted s ≡ []
  pub replies : (polled s ≡ []) × (known_replies s ≡ [])

-- its other end is at the station of the client's node
pub record HasSeat (script : ScriptData) (capacity : ℕ) (stations : List StationData) (s : Session) : Type 0 where
  pub station : StationData
  pub here : slice_get stations (home script s.client) ≡ Some station
  pub seated : IsSeated s station.seats
  pub places : producer_capacity seated.seat.replies ≡ capacity
  pub commands : known_commands seated.seat ≡ []
  pub waits : outbox_replies seated.seat ≡ []

abbrev pub runner_of : StationData → Parts
runner_of station = station.runner

-- the stations' seats are of clients before this one
abbrev pub SeatsBefore : ℕ → List StationData → Type 0
SeatsBefore client stations = (q : ℕ) (station : StationData) → slice_get stations q ≡ Some station
    → (k : ℕ) (seat : Seat) → slice_get station.seats k ≡ Some seat → seat.client < client

-- a station for each node, whose runner made no move, and a session for each of the first n clients, which alone have seats
pub record Opens (script : ScriptData) (limit capacity share n : ℕ) (stations : List StationData) (sessions : List Session) : Type 0 where
  pub runners : IsFirstCrew script LETTER_PLACES limit (map runner_of stations)
  pub count : length sessions ≡ n
  pub each : (client : ℕ) (s : Session) → slice_get sessions client ≡ Some s → IsNewSession script capacity share client s × HasSeat script capacity stations s
  pub before : SeatsBefore n stations
  pub few : share ≤ most_share script

-- and for each client
abbrev pub IsOpen : ScriptData → ℕ → ℕ → ℕ → List StationData → List Session → Type 0
IsOpen script limit capacity share stations sessions = Opens script limit capacity share (length script.clients) stations sessions

-- these stations have these runners, and no seats
pub record AreSeatless (runners : List Parts) (stations : List StationData) : Type 0 where
  pub same : map runner_of stations ≡ runners
  pub none : (q : ℕ) (station : StationData) → slice_get stations q ≡ Some station → station.seats ≡ []

-- the runners' scripts have no commands
abbrev pub HaveNoCommands : List Parts → Type 0
HaveNoCommands runners = (k : ℕ) (p : Parts) → slice_get runners k ≡ Some p → p.node.script.commands ≡ []
