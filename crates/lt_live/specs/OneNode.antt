-- One node of a script, in a process of its own: its station, and the sessions of its clients.
use Rattle.std.specs.Prelude.{◌≡◌, ◌≢◌, ◌<◌, ◌≤◌, ℕ, List, [], Some, length, slice_get}
use Rattle.rtrb.specs.Ring.{producer_capacity}
use Rattle.lt_modes.specs.Script.{ScriptData}
use Rattle.lt_spec.specs.NodeMove.{home, with_commands}
use Rattle.lt_mail.specs.declared.mail.Mail.{Mail}
use Rattle.lt_runner.specs.declared.parts.Parts.{Parts}
use Rattle.lt_runner.specs.Kept.{HasAll}
use Rattle.lt_runner.specs.Ready.{StartsWith}
use Rattle.lt_live.specs.declared.ends.Session.{Session}
use Rattle.lt_live.specs.declared.ends.Seat.{Seat}
use Rattle.lt_live.specs.Words.{known_commands, outbox_replies}
use Rattle.lt_live.specs.Stations.{StationData, IsNewSession, IsSeated, StaySeated, most_share}
use Rattle.lt_live.specs.Live.{EachSession, SaysSame, ServedBy}

-- these sessions have their other ends among the seats
abbrev pub AreSeated : List Session → List Seat → Type 0
AreSeated sessions seats = (k : ℕ) (s : Session) → slice_get sessions k ≡ Some s → IsSeated s seats

-- each of them is served by this runner
abbrev pub AreServedBy : Parts → List Session → Type 0
AreServedBy p sessions = (k : ℕ) (s : Session) → slice_get sessions k ≡ Some s → ServedBy p s.client s

-- the runner is that of this node, and its script is this one but for commands
pub record IsNodeOfScript (script : ScriptData) (node : ℕ) (p : Parts) : Type 0 where
  pub same : p.node.script ≡ with_commands script p.node.script.commands
  pub me : p.node.me ≡ node

-- nothing was done with this runner yet
pub record IsUnused (script : ScriptData) (p : Parts) : Type 0 where
  pub same : p.node.script ≡ script
  pub log : p.log.entries ≡ []
  pub gone : p.log.gone ≡ 0

-- a new session of a client of this station's node, whose other end is there
pub record IsNewHere (script : ScriptData) (capacity share : ℕ) (station : StationData) (s : Session) : Type 0 where
  pub new : IsNewSession script capacity share s.client s
  pub inside : s.client < length script.clients
  pub home : home script s.client ≡ station.runner.node.me
  pub seated : IsSeated s station.seats
  pub places : producer_capacity seated.seat.replies ≡ capacity
  pub commands : known_commands seated.seat ≡ []
  pub waits : outbox_replies seated.seat ≡ []

-- one of the sessions is this client's
pub record HasSessionOf (client : ℕ) (sessions : List Session) : Type 0 where
  pub place : ℕ
  pub session : Session
  pub here : slice_get sessions place ≡ Some session
  pub client_is : session.client ≡ client

-- new sessions of all the station's clients among the first n, in order, which alone have seats
pub record OpensHere (script : ScriptData) (capacity share n : ℕ) (station : StationData)
    (sessions : List Session) : Type 0 where
  pub each : (k : ℕ) (s : Session) → slice_get sessions k ≡ Some s → IsNewHere script capacity share station s
  pub before : (k : ℕ) (s : Session) → slice_get sessions k ≡ Some s → s.client < n
  pub rising : (j k : ℕ) (s t : Session) → slice_get sessions j ≡ Some s → slice_get sessions k ≡ Some t
      → j < k → s.client < t.client
  pub all : (client : ℕ) → client < n → home script client ≡ station.runner.node.me
      → HasSessionOf client sessions
  pub seats : (k : ℕ) (seat : Seat) → slice_get station.seats k ≡ Some seat → seat.client < n

-- the station of the node with this mail, which made no move, and new sessions of all its clients
pub record IsOpenNode (script : ScriptData) (node : ℕ) (mail : Mail) (limit capacity share : ℕ)
    (station : StationData) (sessions : List Session) : Type 0 where
  pub starts : StartsWith script node mail limit station.runner
  pub whole : HasAll station.runner
  pub own : OpensHere script capacity share (length script.clients) station sessions
  pub few : share ≤ most_share script

-- Sessions that look at their rings, one after the other.

-- the session at this place and its seat looked at their rings, and nothing else happened: it is served
pub record SettlesHere (place : ℕ) (station : StationData) (sessions : List Session) (later : StationData)
    (after : List Session) : Type 0 where
  pub runner : later.runner ≡ station.runner
  pub stay : StaySeated station.seats later.seats
  pub seated : AreSeated after later.seats
  pub each : EachSession SaysSame sessions after
  pub others : (k : ℕ) → k ≢ place → slice_get after k ≡ slice_get sessions k
  pub served : (s : Session) → slice_get after place ≡ Some s → ServedBy station.runner s.client s

-- so did the first n
pub record SettlingHere (n : ℕ) (station : StationData) (sessions : List Session) (later : StationData)
    (after : List Session) : Type 0 where
  pub runner : later.runner ≡ station.runner
  pub stay : StaySeated station.seats later.seats
  pub seated : AreSeated after later.seats
  pub each : EachSession SaysSame sessions after
  pub served : (k : ℕ) (s : Session) → k < n → slice_get after k ≡ Some s → ServedBy station.runner s.client s
