-- What a node by itself says of its sessions and of the letters that were carried.
use Rattle.std.specs.Prelude.{◌≡◌, ◌≢◌, ◌<◌, ◌++◌, ℕ, List}
use Rattle.lt_modes.specs.Script.{ScriptData}
use Rattle.lt_spec.specs.Holdings.{lines_of}
use Rattle.lt_spec.specs.NodeMove.{commands_of, with_commands}
use Rattle.lt_mail.specs.declared.mail.Mail.{Mail}
use Rattle.lt_mail.specs.Words.{given_to, taken_from, known_from, sent_to, SameEnds}
use Rattle.lt_runner.specs.declared.parts.Parts.{Parts}
use Rattle.lt_runner.specs.Kept.{AsSeen}
use Rattle.lt_live.specs.declared.ends.Session.{Session}
use Rattle.lt_live.specs.Live.{GoesOn, ServedBy}
use Rattle.lt_live.specs.OneNode.{IsNodeOfScript}
use Rattle.lt_live.specs.Seats.{IsServedSession}
use Rattle.lt_live.specs.Stations.{StationData}
use Rattle.lt_law_apart.specs.Apart.{IsNodeNow}
use Rattle.lt_apart.specs.Remote.{RemoteData, IsOpenRemote, me, fact_of}

-- where its station was opened for a script, it is one of the nodes of that script whose letters are carried
abbrev pub IsTold : RemoteData → RemoteData → Type 0
IsTold a b = (script : ScriptData) → IsNodeOfScript script (me a) a.station.runner → IsNodeNow script (me a) (fact_of b)

-- What looking at rings does.

-- nothing happened to the station and to these far ends but that letters may have gone on to their rings, and that more
-- may be known
pub record OnlyRingsLooked (a b : StationData) (far far_now : Mail) : Type 0 where
  pub runner : AsSeen a.runner b.runner
  pub seats : b.seats ≡ a.seats
  pub ends : SameEnds far far_now
  pub given_stays : (node : ℕ) → taken_from far_now node ≡ taken_from far node
  pub brought_stays : (node : ℕ) → sent_to far_now node ≡ sent_to far node

-- at both ends of the rings between this node and the other one all letters in them are known
pub record KnowsRings (node : ℕ) (station : StationData) (far : Mail) : Type 0 where
  pub came : taken_from station.runner.mail node ++ known_from station.runner.mail node ≡ given_to far node
  pub went : taken_from far node ++ known_from far node ≡ given_to station.runner.mail node

-- the rings between it and one node were looked at, and no others
pub record LooksAtOne (node : ℕ) (a b : StationData) (far far_now : Mail) : Type 0 where
  pub only : OnlyRingsLooked a b far far_now
  pub here : KnowsRings node b far_now
  pub others : (other : ℕ) → other ≢ node → KnowsRings other a far → KnowsRings other b far_now

-- those between it and each of the first n nodes were
pub record HaveEndsLooked (n : ℕ) (a b : StationData) (far far_now : Mail) : Type 0 where
  pub only : OnlyRingsLooked a b far far_now
  pub rings : (node : ℕ) → node < n → KnowsRings node b far_now

-- That a node by itself stays one of its script, as laws.

-- one that is opened is
abbrev pub OpenedIsOfScript : Type 0
OpenedIsOfScript = (script : ScriptData) (node service : ℕ) (key : List ℕ) (limit places share : ℕ) (r : RemoteData)
    (sessions : List Session)
    → IsOpenRemote script node service key limit places share r sessions → IsNodeOfScript script node r.station.runner

-- and stays so, whatever it does
abbrev pub ScriptLasts : Type 0
ScriptLasts = (script : ScriptData) (node : ℕ) (p q : Parts) → IsNodeOfScript script node p → GoesOn p q
    → IsNodeOfScript script node q

-- That what it says of a session is what is asked of the sessions of all nodes, as a law.

abbrev pub ToldIsServed : Type 0
ToldIsServed = (script : ScriptData) (r : RemoteData) (s : Session) → IsNodeOfScript script (me r) r.station.runner
    → ServedBy r.station.runner s.client s
    → IsServedSession (commands_of (with_commands script (fact_of r).commands) s.client) (lines_of
    (fact_of r).part.log) s.client s
