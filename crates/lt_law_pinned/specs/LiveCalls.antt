-- What an answer of live sessions says of the words, the source and the sink, and of how the run ends, for small
-- inputs.
use Rattle.std.specs.Prelude.{◌≡◌, ◌≢◌, ◌≤◌, ◌⊎◌, ℕ, List, [], ◌∷◌, Option, Some, codes, ◌<◌, ◌/◌, Bool, true, false, ◌++◌, None, length, take, replicate, count_by}
use Rattle.lt_modes.specs.declared.mode.Mode.TheVariants.{Write, Read}
use Rattle.lt_modes.specs.declared.command.Command.TheVariants.{Lock, Unlock}
use Rattle.lt_modes.specs.Script.{ScriptData}
use Rattle.lt_modes.specs.declared.event.Event.TheVariants.{Grant, Unlock as Unlocked}
use Rattle.lt_spec.specs.NodeMove.{commands_of}
use Rattle.lt_spec.specs.World.{Logged, world_after, is_of_node, IsRun, can_move}
use Rattle.lt_spec.specs.Promised.{Promised}
use Rattle.lt_io.specs.Streams.{SourceState, Pace}
use Rattle.lt_script.specs.declared.fault.Fault.TheVariants as faults
use Rattle.lt_script.specs.declared.fault.ScriptFault.{ScriptFault}
use Rattle.lt_journal.specs.RunLines.{text_of}
use Rattle.lt_law_examples.specs.Worked.{declared_set, declared_client, act}
use Rattle.lt_live.specs.declared.reply.Reply.TheVariants as reply
use Rattle.lt_call.specs.Outcomes.{exit_code}
use Rattle.lt_live_serve.specs.declared.limits.TheConstants.{MAX_INPUT}
use Rattle.lt_live_serve.specs.declared.served.Served.{Served}
use Rattle.lt_live_serve.specs.declared.status.Status.{Status}
use Rattle.lt_live_serve.specs.declared.status.Status.TheVariants.{Done, Stuck, Usage, Refused, TooLong, ReadFault, WriteFault, NoMemory, Cut, Share}
use Rattle.lt_live_serve.specs.Serves.{Serves, IsFirstOver}
use Rattle.lt_live_serve.specs.Status.{outcome_of, line_of_status}
use Rattle.lt_law_pinned.specs.Told.{two_writers, EndedRun, two_writers_script, both_moves, falling, crossed}

-- the fault of a script of nothing
abbrev pub no_nodes : ScriptFault
no_nodes = record { line = 1; fault = faults.Nodes }

pub record LiveCodesAre : Type 0 where
  pub done : exit_code (outcome_of Done) ≡ 0
  pub usage : exit_code (outcome_of Usage) ≡ 1
  pub refused : exit_code (outcome_of (Refused no_nodes)) ≡ 2
  pub too_long : exit_code (outcome_of TooLong) ≡ 2
  pub stuck : exit_code (outcome_of Stuck) ≡ 3
  pub read_fault : exit_code (outcome_of ReadFault) ≡ 4
  pub write_fault : exit_code (outcome_of WriteFault) ≡ 5
  pub no_memory : exit_code (outcome_of NoMemory) ≡ 6
  pub cut : exit_code (outcome_of (Cut 7)) ≡ 7
  pub share : exit_code (outcome_of (Share 3)) ≡ 10
  pub input : MAX_INPUT ≡ 1048576

pub record LiveTextsAre : Type 0 where
  pub done : line_of_status Done ≡ []
  pub stuck : line_of_status Stuck ≡ []
  pub usage : line_of_status Usage ≡ codes "locklive: usage: locklive"
  pub refused : line_of_status (Refused no_nodes) ≡ codes "locklive: line 1: S5"
  pub too_long : line_of_status TooLong ≡ codes "locklive: input too long"
  pub read_fault : line_of_status ReadFault ≡ codes "locklive: read fault"
  pub write_fault : line_of_status WriteFault ≡ codes "locklive: write fault"
  pub no_memory : line_of_status NoMemory ≡ codes "locklive: no memory"
  pub cut : line_of_status (Cut 7) ≡ codes "locklive: cut at node 7"
  pub share : line_of_status (Share 3) ≡ codes "locklive: too many commands of client 3"

-- what a sink tells: the bytes that it holds, if they are known, its count of failed writes, and how it takes pieces,
-- if that is known
pub record SinkState : Type 0 where
  pub held : Option (List ℕ)
  pub faults : ℕ
  pub pace : Option Pace

-- an answer to so many words, with what the source and the sink tell before and after it
pub record LiveCall : Type 0 where
  pub words : ℕ
  pub answer : Served
  pub source : SourceState
  pub source_after : SourceState
  pub sink : SinkState
  pub sink_after : SinkState

-- the top call gives it
abbrev pub IsCall : LiveCall → Type 0
IsCall c =
    Serves (λ (s : SourceState). s) (λ (k : SinkState). k.held) (λ (k : SinkState). k.faults)
    (λ (k : SinkState). k.pace) c.words c.answer c.source c.source_after c.sink c.sink_after

-- it does without words, and answers so, where all counts begin at 0
pub record Answers (status : Status) (c : LiveCall) : Type 0 where
  pub serves : IsCall c
  pub no_words : c.words ≡ 0
  pub status_is : c.answer.status ≡ status
  pub counts : (c.source.given ≡ 0) × (c.source.faults ≡ 0) × (c.source.ends ≡ 0)
  pub writes : c.sink.faults ≡ 0

-- it does without words, where the input is these bytes
pub record ReadsBytes (bytes : List ℕ) (c : LiveCall) : Type 0 where
  pub serves : IsCall c
  pub no_words : c.words ≡ 0
  pub input : c.source.left ≡ Some bytes

-- no read or write failed, the input isn't too long, and memory wasn't wanting
pub record IsUntroubled (c : LiveCall) : Type 0 where
  pub counts : (c.source.given ≡ 0) × (c.source.faults ≡ 0)
  pub given : c.source_after.given ≤ 1048576
  pub read : c.source_after.faults ≡ 0
  pub written : (c.sink.faults ≡ 0) × (c.sink_after.faults ≡ 0)
  pub memory : c.answer.status ≢ NoMemory

-- a client takes a lock, and gives it back
abbrev pub one_lock : List ℕ
one_lock = codes "nodes 1\nset s\nclient a at 0\na lock s write\na unlock s write\n"

abbrev pub one_lock_script : ScriptData
one_lock_script = record {
  version = 1;
  nodes = 1;
  sets = declared_set (codes "s") 0 ∷ [];
  clients = declared_client (codes "a") 0 ∷ [];
  commands = (0, Lock 0 Write) ∷ (0, Unlock 0 Write) ∷ [];
}

-- with a word nothing is read and nothing is done, and this is so with a word alone
pub record LiveWordsTold : Type 0 where
  pub usage : (c : LiveCall) → IsCall c → c.words ≡ 1 → c.answer.status ≡ Usage
  pub unread : (c : LiveCall) → IsCall c → c.words ≡ 1 → c.source_after ≡ c.source
  pub unwritten : (c : LiveCall) → IsCall c → c.words ≡ 1 → c.sink_after ≡ c.sink
  pub no_run : (c : LiveCall) → IsCall c → c.words ≡ 1 → (c.answer.run.entries ≡ []) × (c.answer.polled.items ≡ [])
  pub no_usage : (c : LiveCall) → IsCall c → c.words ≡ 0 → c.answer.status ≢ Usage

-- why there is no run
pub record LiveRefusalsTold : Type 0 where
  pub fault : (c : LiveCall) (fault : ScriptFault) → ReadsBytes [] c → c.answer.status ≡ Refused fault
      → fault ≡ no_nodes
  pub no_fault : (c : LiveCall) (fault : ScriptFault) → ReadsBytes two_writers c → c.answer.status ≢ Refused fault
  pub no_share : (c : LiveCall) (client : ℕ) → ReadsBytes two_writers c → c.answer.status ≢ Share client
  -- nothing was done then
  pub no_run : (c : LiveCall) → Answers (Share 3) c → (c.answer.run.entries ≡ []) × (c.answer.polled.items ≡ [])
  pub unwritten : (c : LiveCall) → Answers (Share 3) c → c.sink_after ≡ c.sink
  pub unwritten_fault : (c : LiveCall) → Answers (Refused no_nodes) c → c.sink_after ≡ c.sink
  pub unwritten_memory : (c : LiveCall) → Answers NoMemory c → c.sink_after ≡ c.sink

-- with this answer the source was read to its end
abbrev pub ReadsWhole : Status → Type 0
ReadsWhole status = (c : LiveCall) → Answers status c → c.source_after.ends ≡ 1

-- what is counted
pub record LiveCountsTold : Type 0 where
  pub too_long : (c : LiveCall) → Answers TooLong c → c.source_after.given ≡ 1048577
  pub not_too_long : (c : LiveCall) → Answers NoMemory c → c.source_after.given ≤ 1048576
  -- memory was wanting once bytes came
  pub memory : (c : LiveCall) → Answers NoMemory c → 0 < c.source_after.given
  pub read_fault : (c : LiveCall) → Answers ReadFault c → c.source_after.faults ≡ 1
  pub no_read_fault : (c : LiveCall) → Answers NoMemory c → c.source_after.faults ≡ 0
  pub whole_done : ReadsWhole Done
  pub whole_stuck : ReadsWhole Stuck
  pub whole_write : ReadsWhole WriteFault
  pub whole_fault : ReadsWhole (Refused no_nodes)
  pub whole_share : ReadsWhole (Share 3)
  pub write_fault : (c : LiveCall) → Answers WriteFault c → c.sink_after.faults ≡ 1
  pub no_write_fault : (c : LiveCall) → Answers Done c → c.sink_after.faults ≡ 0

-- which end comes where nothing fails
pub record LiveEndsTold : Type 0 where
  pub never_cut : (c : LiveCall) (node : ℕ) → IsCall c → c.answer.status ≢ Cut node
  pub done_or_stuck : (c : LiveCall) → ReadsBytes two_writers c → IsUntroubled c
      → (c.answer.status ≡ Done) ⊎ (c.answer.status ≡ Stuck)
  pub ordered : (c : LiveCall) → ReadsBytes one_lock c → IsUntroubled c → c.answer.status ≡ Done
  pub never_stuck : (c : LiveCall) → ReadsBytes one_lock c → c.answer.status ≢ Stuck

-- What an answer of live sessions says of its run, of the replies and of the journal, for small inputs; and which
-- clients have too many commands.

-- with this answer the run is one of the two writers that ended so
abbrev pub LiveEndIs : Status → Bool → Type 0
LiveEndIs status waiting = (c : LiveCall) → ReadsBytes two_writers c → c.answer.status ≡ status
    → EndedRun two_writers_script c.answer.run.entries waiting

-- with this answer the journal of the run was appended
abbrev pub WritesJournal : Status → Type 0
WritesJournal status = (c : LiveCall) (old new : List ℕ) → ReadsBytes two_writers c → c.answer.status ≡ status
    → c.sink.held ≡ Some old → c.sink_after.held ≡ Some new
    → new ≡ old ++ text_of two_writers_script c.answer.run.entries None

-- a first part of the journal of a run of the two writers
pub record JournalPart (run : List Logged) (old new : List ℕ) : Type 0 where
  pub is_run : IsRun two_writers_script run
  pub promised : Promised two_writers_script run
  pub size : ℕ
  pub less : size < length (text_of two_writers_script run None)
  pub text : new ≡ old ++ take size (text_of two_writers_script run None)

-- a run of some script in which no node made more than 2^30 moves and none can make another, and no client had more
-- than its share
pub record IsLiveRun (script : ScriptData) (run : List Logged) : Type 0 where
  pub is_run : IsRun script run
  pub promised : Promised script run
  pub few : (node : ℕ) → node < script.nodes → count_by (is_of_node node) run ≤ 1073741824
  pub far : (node : ℕ) → node < script.nodes → can_move script (world_after script run) node ≡ true
      → count_by (is_of_node node) run ≡ 1073741824
  pub shared : (client : ℕ) → client < length script.clients
      → length (commands_of script client) ≤ 4096 / length script.clients

-- the run in which the lock is taken and given back
abbrev pub two_moves : List Logged
two_moves = act 1 0 0 (Grant 0 0 Write ∷ []) ∷ act 2 0 0 (Unlocked 0 0 Write ∷ []) ∷ []

pub record LiveRunsTold : Type 0 where
  pub done : LiveEndIs Done false
  pub stuck : LiveEndIs Stuck true
  -- where the input isn't known, the run is one of some script
  pub some : (c : LiveCall) → IsCall c → c.answer.status ≡ Stuck
      → (script : ScriptData) × IsLiveRun script c.answer.run.entries
  -- its moves stand in the order of their stamps
  pub not_falling : (c : LiveCall) → IsCall c → c.answer.status ≡ Done → c.answer.run.entries ≡ falling → ⊥
  pub not_crossed : (c : LiveCall) → IsCall c → c.answer.status ≡ Stuck → c.answer.run.entries ≡ crossed → ⊥
  -- the replies that were polled
  pub stuck_replies : (c : LiveCall) → ReadsBytes two_writers c → c.answer.status ≡ Stuck
      → c.answer.run.entries ≡ both_moves
      → c.answer.polled.items ≡ (0, reply.Granted) ∷ []
  pub done_replies : (c : LiveCall) → ReadsBytes one_lock c → c.answer.status ≡ Done → c.answer.run.entries ≡ two_moves
      → c.answer.polled.items ≡ (0, reply.Granted) ∷ (0, reply.Unlocked) ∷ []
  -- the journal
  pub done_text : WritesJournal Done
  pub stuck_text : WritesJournal Stuck
  pub part : (c : LiveCall) (old new : List ℕ) → ReadsBytes two_writers c → c.answer.status ≡ WriteFault
      → c.sink.held ≡ Some old → c.sink_after.held ≡ Some new → JournalPart c.answer.run.entries old new

-- 256 clients, of whom the first two have 17 commands each: one more than their share
abbrev pub crowded : ScriptData
crowded = record {
  version = 2;
  nodes = 64;
  sets = declared_set (codes "s") 0 ∷ [];
  clients = replicate 256 (declared_client (codes "a") 0);
  commands = replicate 17 (1, Unlock 0 Read) ++ replicate 17 (0, Unlock 0 Read);
}

-- the least client that has too many is named
pub record LiveSharesTold : Type 0 where
  pub first : IsFirstOver crowded (Some 0)
  pub not_second : IsFirstOver crowded (Some 1) → ⊥
  pub not_third : IsFirstOver crowded (Some 2) → ⊥
  pub not_none : IsFirstOver crowded None → ⊥
  pub fits : IsFirstOver two_writers_script None
