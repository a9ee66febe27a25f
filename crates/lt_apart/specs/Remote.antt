-- A node in a process of its own.
use Rattle.std.specs.Prelude.{◌≡◌, ℕ, List, [], Some, length, slice_get}
use Rattle.lt_modes.specs.Script.{ScriptData}
use Rattle.lt_journal.specs.RunLines.{text_of}
use Rattle.lt_modes.specs.State.{Letter}
use Rattle.lt_mail.specs.declared.mail.Mail.{Mail}
use Rattle.lt_script.specs.Printing.{print_of}
use Rattle.lt_mail.specs.Star.{AreFarEnds}
use Rattle.lt_mail.specs.Words.{outs_count, ins_count, sent_to, taken_from}
use Rattle.lt_runner.specs.declared.parts.Parts.{Parts}
use Rattle.lt_runner.specs.Kept.{AsSeen}
use Rattle.lt_threads.specs.Meeting.{part_of}
use Rattle.lt_live.specs.declared.ends.Session.{Session}
use Rattle.lt_live.specs.OneNode.{IsOpenNode}
use Rattle.lt_live.specs.Stations.{StationData}
use Rattle.lt_law_apart.specs.Apart.{NodeNow}
use Rattle.lt_apart.specs.declared.journal.NodeJournal.{NodeJournal}

-- the number and the key of its service, its station, and the far ends of the rings of the station's runner
pub record RemoteData : Type 0 where
  pub service : ℕ
  pub key : List ℕ
  pub station : StationData
  pub far : Mail

abbrev pub runner_at : RemoteData → Parts
runner_at r = r.station.runner

-- the number of its node, and how many nodes there are
abbrev pub me : RemoteData → ℕ
me r = r.station.runner.node.me

abbrev pub nodes : RemoteData → ℕ
nodes r = r.station.runner.node.script.nodes

-- the letters of the other node that were brought in, in order
abbrev pub brought : RemoteData → ℕ → List Letter
brought r from = sent_to r.far from

-- the letters for the other node that were given out, in order
abbrev pub given : RemoteData → ℕ → List Letter
given r to = taken_from r.far to

-- what can be said of the node by itself
abbrev pub fact_of : RemoteData → NodeNow
fact_of r = record {
  commands = r.station.runner.node.script.commands;
  part = part_of r.station.runner;
  brought = brought r;
  given = given r;
}

-- the number of each node is how many letters went to it or came from it
pub record AreCounts (nodes : ℕ) (numbers : List ℕ) (letters : ℕ → List Letter) : Type 0 where
  pub count : length numbers ≡ nodes
  pub each : (node number : ℕ) → slice_get numbers node ≡ Some number → number ≡ length (letters node)

-- the mail has the far ends of the runner's rings, and these are the numbers of the letters that went through them
pub record HasFarEnds (p : Parts) (far : Mail) (given brought : List ℕ) : Type 0 where
  pub outs : outs_count far ≡ p.node.script.nodes
  pub ins : ins_count far ≡ p.node.script.nodes
  pub near : outs_count p.mail ≡ p.node.script.nodes
  pub ends : AreFarEnds p.mail far
  pub given_counts : AreCounts p.node.script.nodes given (taken_from far)
  pub brought_counts : AreCounts p.node.script.nodes brought (sent_to far)

-- it is of the same service, and no letter was brought in or given out
pub record CarriesNone (a b : RemoteData) : Type 0 where
  pub service : b.service ≡ a.service
  pub key : b.key ≡ a.key
  pub brought_stays : (from : ℕ) → brought b from ≡ brought a from
  pub given_stays : (to : ℕ) → given b to ≡ given a to

-- the station of the node with these sessions, where no letter came in or went out yet
pub record IsOpenRemote (script : ScriptData) (node service : ℕ) (key : List ℕ) (limit places share : ℕ)
    (r : RemoteData)
    (sessions : List Session) : Type 0 where
  pub service_is : r.service ≡ service
  pub key_is : r.key ≡ key
  pub station : IsOpenNode script node r.station.runner.mail limit places share r.station sessions
  pub brought_none : (from : ℕ) → brought r from ≡ []
  pub given_none : (to : ℕ) → given r to ≡ []

-- its node made no move and was given no command, and its sessions keep their other ends
pub record StandsStill (a b : RemoteData) : Type 0 where
  pub runner : AsSeen a.station.runner b.station.runner
  pub seats : b.station.seats ≡ a.station.seats

-- the texts of the script with the commands of the node's clients, and of the node's moves
pub record IsJournalOfNode (r : RemoteData) (journal : NodeJournal) : Type 0 where
  pub script : journal.script.items ≡ print_of r.station.runner.node.script
  pub moves : journal.moves.items ≡ text_of r.station.runner.node.script r.station.runner.log.entries (Some (me r))
