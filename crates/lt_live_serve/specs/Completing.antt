-- What callers do.
use Rattle.std.specs.Prelude.{◌≡◌, ◌≤◌, ◌-◌, ℕ, List, Some, length, sum_by, slice_get, ◌<◌, [], map, ◌≢◌, Option, None, Bool, true, false, nat_lt}
use Rattle.lt_modes.specs.Script.{ScriptData}
use Rattle.lt_spec.specs.NodeMove.{commands_of, home, with_commands}
use Rattle.lt_spec.specs.Holdings.{lines_of}
use Rattle.lt_spec.specs.Script.{IsScript}
use Rattle.lt_mail.specs.Words.{Alike}
use Rattle.lt_runner.specs.declared.parts.Parts.{Parts}
use Rattle.lt_runner.specs.declared.turning.Turned.{Turned}
use Rattle.lt_runner.specs.declared.turning.Turned.TheVariants.{NoMemory}
use Rattle.lt_runner.specs.Kept.{HasAll}
use Rattle.lt_threads.specs.Meeting.{HaveAll}
use Rattle.lt_threads.specs.Pushes.{HasLimit}
use Rattle.lt_live.specs.declared.ends.Session.{Session}
use Rattle.lt_live.specs.Words.{SameSession, taken, outbox_replies, AreTwoEnds}
use Rattle.lt_live.specs.Live.{AreLive, StationGoesOn, EachStation}
use Rattle.lt_live.specs.Stations.{runner_of, StationData, IsNewSession, equal_share, IsSeated, StaySeated, IsStation, StationTurns, EachSeat}
use Rattle.lt_live.specs.Seats.{replies_in, KnowAll}
use Rattle.lt_live.specs.declared.reply.Reply.{Reply}
use Rattle.lt_live.specs.declared.ends.Seat.{Seat}
use Rattle.lt_live_serve.specs.declared.callers.Caller.{Caller}
use Rattle.lt_live_serve.specs.declared.limits.TheConstants.{MOVES}

abbrev pub session_of : Caller → Session
session_of caller = caller.session

-- how many commands are still to be submitted
abbrev pub left_of : Caller → ℕ
left_of caller = length caller.commands.items - caller.next

abbrev pub all_left : List Caller → ℕ
all_left callers = sum_by left_of callers

-- the caller of the same session, with the same commands, of which more may have been submitted
pub record Calls (a b : Caller) : Type 0 where
  pub session : SameSession a.session b.session
  pub commands : b.commands.items ≡ a.commands.items
  pub left : left_of b ≤ left_of a

-- the callers at the same places go together
abbrev pub EachCaller : (Caller → Caller → Type 0) → List Caller → List Caller → Type 0
EachCaller R old new = (k : ℕ) → Alike R (slice_get old k) (slice_get new k)

-- all commands were submitted
abbrev pub AllSubmitted : List Caller → Type 0
AllSubmitted callers = (k : ℕ) (c : Caller) → slice_get callers k ≡ Some c → left_of c ≡ 0

-- Stations and callers of a script that was read.

-- no reply waits at any of these seats for a place in its ring
abbrev pub NoReplyWaits : List Seat → Type 0
NoReplyWaits seats = (k : ℕ) (seat : Seat) → slice_get seats k ≡ Some seat → outbox_replies seat ≡ []

-- the station of the same node, where all sessions keep their other ends; it has forgotten nothing if it had not
-- before, and no reply waits if none did
pub record ServesOn (a b : StationData) : Type 0 where
  pub goes : StationGoesOn a b
  pub has_all : HasAll a.runner → HasAll b.runner
  pub waits : NoReplyWaits a.seats → NoReplyWaits b.seats

-- the stations of all nodes and the callers of all clients, in order; each caller has the client's commands of the
-- script, which no station had at first; no station has forgotten moves or commands, and at none a reply waits
pub record AreServing (script : ScriptData) (stations : List StationData) (callers : List Caller) : Type 0 where
  pub live : AreLive (with_commands script []) stations (map session_of callers)
  pub limits : HasLimit MOVES (map runner_of stations)
  pub have_all : HaveAll (map runner_of stations)
  pub waits : (q : ℕ) (station : StationData) → slice_get stations q ≡ Some station → NoReplyWaits station.seats
  pub lists : (client : ℕ) (c : Caller) → slice_get callers client ≡ Some c → c.commands.items ≡ commands_of script client

-- the station of the client's node has appended all commands of the client
abbrev pub IsCompleteAt : ScriptData → List StationData → ℕ → Type 0
IsCompleteAt script stations client = (station : StationData) → slice_get stations (home script client) ≡ Some station
    → commands_of station.runner.node.script client ≡ commands_of script client

-- so it is of each client
abbrev pub AreComplete : ScriptData → List StationData → Type 0
AreComplete script stations = (client : ℕ) → IsCompleteAt script stations client

-- the caller has polled all replies to its client that the log of the client's node has
abbrev pub HasHeardAll : ScriptData → List Parts → ℕ → Caller → Type 0
HasHeardAll script runners client c = (p : Parts) → slice_get runners (home script client) ≡ Some p → c.heard.items ≡ replies_in client (lines_of p.log.entries)

-- so have the first n callers
abbrev pub HaveHeard : ScriptData → ℕ → List Parts → List Caller → Type 0
HaveHeard script n runners callers = (client : ℕ) (c : Caller) → client < n → slice_get callers client ≡ Some c → HasHeardAll script runners client c

-- Callers of new sessions.

-- a new session of a client of the script, which has no more commands than the session may submit, nor than it has
-- places for
pub record CanCall (script : ScriptData) (s : Session) : Type 0 where
  pub client : ℕ
  pub below : client < length script.clients
  pub places : ℕ
  pub new : IsNewSession (with_commands script []) places (equal_share script) client s
  pub roomy : equal_share script ≤ places
  pub few : length (commands_of script client) ≤ equal_share script

abbrev pub AreNew : ScriptData → List Session → Type 0
AreNew script sessions = (k : ℕ) (s : Session) → slice_get sessions k ≡ Some s → CanCall script s × (s.client ≡ k)

-- the caller of this session, with the commands of the session's client
pub record IsNewCaller (script : ScriptData) (s : Session) (c : Caller) : Type 0 where
  pub session : c.session ≡ s
  pub commands : c.commands.items ≡ commands_of script s.client

-- the callers of these sessions
pub record AreNewCallers (script : ScriptData) (sessions : List Session) (callers : List Caller) : Type 0 where
  pub sessions_are : map session_of callers ≡ sessions
  pub lists : (k : ℕ) (c : Caller) → slice_get callers k ≡ Some c → c.commands.items ≡ commands_of script c.session.client

-- Callers that poll all that there is.

-- nothing happened but that the caller may have polled replies, and that both ends of its session looked at their rings
pub record Hears (a : StationData) (c : Caller) (b : StationData) (d : Caller) : Type 0 where
  pub runner : b.runner ≡ a.runner
  pub stay : StaySeated a.seats b.seats
  pub waits : NoReplyWaits a.seats → NoReplyWaits b.seats
  pub seated : IsSeated d.session b.seats
  pub calls : Calls c d

-- the caller of this client polled all replies that its station has, and nothing else happened
pub record TellsAt (script : ScriptData) (client : ℕ) (stations : List StationData) (callers : List Caller) (later : List StationData) (after : List Caller) : Type 0 where
  pub serving : AreServing script later after
  pub runners : map runner_of later ≡ map runner_of stations
  pub others : (k : ℕ) → k ≢ client → slice_get after k ≡ slice_get callers k
  pub heard : (c : Caller) → slice_get after client ≡ Some c → HasHeardAll script (map runner_of later) client c

-- what the caller polled, each reply with its client
abbrev pub marked : Caller → List (ℕ × Reply)
marked c = map (λ (reply : Reply). (c.session.client, reply)) c.heard.items

abbrev pub marked_by : Option Caller → List (ℕ × Reply)
marked_by None = []
marked_by (Some c) = marked c

abbrev pub heard_at : List Caller → ℕ → List (ℕ × Reply)
heard_at callers k = marked_by (slice_get callers k)

-- Commands that come to their stations.

-- how many commands the station has appended
abbrev pub appended_at : StationData → ℕ
appended_at station = length station.runner.node.script.commands

-- how many more the whole script has, and so for all stations together
abbrev pub lack_at : ScriptData → StationData → ℕ
lack_at script station = length script.commands - appended_at station

abbrev pub all_lack : ScriptData → List StationData → ℕ
all_lack script stations = sum_by (lack_at script) stations

-- it is a station, and what it appended makes up a script
pub record IsKept (station : StationData) : Type 0 where
  pub is_station : IsStation station.runner station.seats
  pub is_script : IsScript station.runner.node.script

abbrev pub AreStationsKept : List StationData → Type 0
AreStationsKept stations = (k : ℕ) (station : StationData) → slice_get stations k ≡ Some station → IsKept station

-- the caller's session and its seat know all that is in their rings
pub record IsBeside (script : ScriptData) (stations : List StationData) (client : ℕ) (c : Caller) : Type 0 where
  pub station : StationData
  pub here : slice_get stations (home script client) ≡ Some station
  pub seat : Seat
  pub at : slice_get station.seats c.session.place ≡ Some seat
  pub link : AreTwoEnds c.session seat
  pub beside : KnowAll c.session seat

-- so it is of the first n callers
abbrev pub BesideTo : ScriptData → ℕ → List StationData → List Caller → Type 0
BesideTo script n stations callers = (client : ℕ) (c : Caller) → client < n → slice_get callers client ≡ Some c → IsBeside script stations client c

-- the seat took no command, and has the same in hand
pub record SameHand (s t : Seat) : Type 0 where
  pub client : t.client ≡ s.client
  pub hand : t.hand ≡ s.hand
  pub taken : taken t ≡ taken s

-- the station's seats looked at their rings
pub record OnlyLooks (a b : StationData) : Type 0 where
  pub runner : b.runner ≡ a.runner
  pub stay : StaySeated a.seats b.seats
  pub hands : EachSeat SameHand a.seats b.seats

-- the first n callers and their seats looked at their rings
pub record CallersLook (script : ScriptData) (n : ℕ) (stations : List StationData) (callers : List Caller) (later : List StationData) (after : List Caller) : Type 0 where
  pub serving : AreServing script later after
  pub looks : EachStation OnlyLooks stations later
  pub calls : EachCaller Calls callers after
  pub beside : BesideTo script n later after

-- the caller of this client and its seat did
pub record CallerLooks (script : ScriptData) (client : ℕ) (stations : List StationData) (callers : List Caller) (later : List StationData) (after : List Caller) : Type 0 where
  pub serving : AreServing script later after
  pub looks : EachStation OnlyLooks stations later
  pub calls : EachCaller Calls callers after
  pub one : (c : Caller) → slice_get after client ≡ Some c → IsBeside script later client c
  pub others : (k : ℕ) (c : Caller) → k ≢ client → slice_get after k ≡ Some c → (slice_get callers k ≡ Some c) × (IsBeside script stations k c → IsBeside script later k c)

-- the station made a turn, for which there was memory; it may have appended more
pub record Turns (more : Bool) (a b : StationData) : Type 0 where
  pub turned : Turned
  pub fits : turned ≢ NoMemory
  pub turns : StationTurns turned a.runner a.seats b.runner b.seats
  pub goes : StationGoesOn a b
  pub grew : more ≡ nat_lt (appended_at a) (appended_at b)

-- the station at this place did, and the others stay
pub record TurnsAt (more : Bool) (place : ℕ) (old new : List StationData) : Type 0 where
  pub x : StationData
  pub y : StationData
  pub before : slice_get old place ≡ Some x
  pub now : slice_get new place ≡ Some y
  pub one : Turns more x y
  pub count : length new ≡ length old
  pub others : (k : ℕ) → k ≢ place → slice_get new k ≡ slice_get old k

-- each station did
abbrev pub AnyTurns : StationData → StationData → Type 0
AnyTurns a b = (more : Bool) × Turns more a b

-- the station has appended as many as before
abbrev pub SameCount : StationData → StationData → Type 0
SameCount a b = appended_at b ≡ appended_at a

-- some station has appended more
pub record SomeGrew (old new : List StationData) : Type 0 where
  pub place : ℕ
  pub x : StationData
  pub y : StationData
  pub before : slice_get old place ≡ Some x
  pub now : slice_get new place ≡ Some y
  pub less : appended_at x < appended_at y

-- all stations made a turn; some has appended more, or none
pub record AllTurn (more : Bool) (old new : List StationData) : Type 0 where
  pub each : EachStation AnyTurns old new
  pub some : more ≡ true → SomeGrew old new
  pub none : more ≡ false → EachStation SameCount old new
