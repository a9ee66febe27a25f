-- Commands that a client may submit.
use Rattle.std.specs.Prelude.{◌≡◌, true, ℕ, List, Some, slice_get, take, filter_map, ◌<◌, Bool, false, nat_lt, length, Option, None, Err, ◌≢◌, Ok, map, ◌+◌, ◌⊎◌, []}
use Rattle.std.specs.Io.KnownBytes.{Appends}
use Rattle.lt_modes.specs.declared.command.Command.{Command}
use Rattle.lt_modes.specs.Script.{ScriptData}
use Rattle.lt_lists.specs.Below.{gather_below}
use Rattle.lt_spec.specs.NodeMove.{command_if, commands_of}
use Rattle.lt_spec.specs.declared.ending.Ending.{Ending}
use Rattle.lt_spec.specs.declared.ending.Ending.TheVariants as ending
use Rattle.lt_spec.specs.Holdings.{lines_of}
use Rattle.lt_spec.specs.World.{Logged}
use Rattle.lt_spec.specs.Script.{IsScript, IsShort}
use Rattle.lt_spec.specs.Ordered.{IsOrdered}
use Rattle.lt_spec.specs.Promised.{Promised}
use Rattle.lt_io.specs.Streams.{Rose, RoseBy, SourceState, AppendsPart, Pace, WritesByFewest, StopsByFewest}
use Rattle.lt_script.specs.Reading.{read_of}
use Rattle.lt_script.specs.declared.fault.ScriptFault.{ScriptFault}
use Rattle.lt_journal.specs.RunLines.{text_of}
use Rattle.lt_threads.specs.Threads.{IsThreadRun}
use Rattle.lt_live.specs.Submitting.{may_ask}
use Rattle.lt_live.specs.Stations.{equal_share}
use Rattle.lt_live.specs.declared.reply.Reply.{Reply}
use Rattle.lt_live.specs.Seats.{replies_in}
use Rattle.lt_call.specs.Scripts.{Denotes, HasFault, DenotesOrdered}
use Rattle.lt_call.specs.Outcomes.{IsEnding, WritesNothing, SaysOfSource, SaysOfSink}
use Rattle.lt_live_serve.specs.declared.status.Status.{Status}
use Rattle.lt_live_serve.specs.declared.status.Status.TheVariants.{Refused, NoMemory, Done, Stuck, Usage, WriteFault, Cut, Share}
use Rattle.lt_live_serve.specs.declared.limits.TheConstants.{MOVES, MAX_INPUT}
use Rattle.lt_live_serve.specs.Status.{cut_node, outcome_of, status_by_end}
use Rattle.lt_live_serve.specs.declared.served.Served.{Served}

-- all that these commands name is of the script and of its version
abbrev pub AsksAll : ScriptData → ℕ → List Command → Type 0
AsksAll script client commands = (k : ℕ) (command : Command) → slice_get commands k ≡ Some command → may_ask script client command ≡ true

-- The commands of a client, among the first ones of the script.

-- the client's commands among the first k ones
abbrev pub among : ScriptData → ℕ → ℕ → List Command
among script client k = filter_map (command_if client) (take k script.commands)

-- Clients that have more commands than their sessions may submit.

abbrev pub is_over : ScriptData → ℕ → Bool
is_over script client = nat_lt (equal_share script) (length (commands_of script client))

-- none of the first n clients has too many
abbrev pub NoneIsOver : ScriptData → ℕ → Type 0
NoneIsOver script n = (client : ℕ) → client < n → is_over script client ≡ false

-- the least client that has too many, if there is one
abbrev pub IsFirstOver : ScriptData → Option ℕ → Type 0
IsFirstOver script None = NoneIsOver script (length script.clients)
IsFirstOver script (Some client) = (client < length script.clients) × (is_over script client ≡ true) × NoneIsOver script client

-- Why an input is refused.

-- the bytes have this fault, or memory was wanting, which is so only where there are some
abbrev pub IsFirstFaultOf : List ℕ → Status → Type 0
IsFirstFaultOf bytes (Refused fault) = read_of bytes ≡ Err fault
IsFirstFaultOf bytes NoMemory = 0 < length bytes
IsFirstFaultOf bytes other = ⊥

-- What came of a script: its run, and what the sessions polled.

-- if the bytes are known, they denote a script of which this client is the least that has more commands than its
-- session may submit
abbrev pub IsOverShare : Option (List ℕ) → ℕ → Type 0
IsOverShare None client = Unit {0}
IsOverShare (Some bytes) client = (script : ScriptData) × (read_of bytes ≡ Ok script) × IsFirstOver script (Some client)

-- the replies to the first n clients, client by client, each with its client
abbrev pub replies_below : ℕ → List Logged → List (ℕ × Reply)
replies_below n run = gather_below n (λ client. map (λ (reply : Reply). (client, reply)) (replies_in client (lines_of run)))

-- all replies of the run, client by client, each with its client
abbrev pub all_replies : ScriptData → List Logged → List (ℕ × Reply)
all_replies script run = replies_below (length script.clients) run

-- a run of the script by all rules, its moves in the order of their stamps, that ended so and keeps all that is
-- promised; and what the sessions polled, which is every reply of it
pub record LiveRun (end : Ending) (script : ScriptData) (run : List Logged) (polled : List (ℕ × Reply)) : Type 0 where
  pub is_script : IsScript script
  pub is_short : IsShort script
  pub ran : IsThreadRun MOVES end script run
  pub promised : Promised script run
  -- if the script is ordered, it didn't end at rest with a client waiting
  pub ordered : IsOrdered script → end ≢ ending.Stuck
  pub polled_is : polled ≡ all_replies script run

-- such a run of the script that the bytes denote, in which no client has more commands than its session may submit,
-- and its journal
pub record Journals (end : Ending) (left : Option (List ℕ)) (run : List Logged) (polled : List (ℕ × Reply)) (text : List ℕ) : Type 0 where
  pub script : ScriptData
  pub denoted : Denotes left script
  pub shared : IsFirstOver script None
  pub live : LiveRun end script run polled
  -- it wasn't cut
  pub never_cut : (node : ℕ) → end ≢ ending.Cut node
  pub journal : text ≡ text_of script run (cut_node end)

-- All that the top call says of an answer: what was written, why the answer comes, and what it says of the source and
-- the sink.

-- it gives no run and no replies, and nothing was written
abbrev pub DidNothing : List Logged → List (ℕ × Reply) → Option (List ℕ) → Option (List ℕ) → Type 0
DidNothing run polled old new = (run ≡ []) × (polled ≡ []) × (new ≡ old)

-- the run ended so, and its whole journal was appended
abbrev pub WroteAll : Ending → Option (List ℕ) → List Logged → List (ℕ × Reply) → Option (List ℕ) → Option (List ℕ) → Type 0
WroteAll end left run polled old new = (text : List ℕ) × Journals end left run polled text × Appends old new text

-- the run ended in some way, and a first part of its journal was appended
abbrev pub WrotePart : Option (List ℕ) → List Logged → List (ℕ × Reply) → Option (List ℕ) → Option (List ℕ) → Type 0
WrotePart left run polled old new = (end : Ending) × (text : List ℕ) × Journals end left run polled text × AppendsPart old new text

-- what the answer says of the run, of what the sessions polled, and of what the sink held before and after
abbrev pub Did : Status → Option (List ℕ) → List Logged → List (ℕ × Reply) → Option (List ℕ) → Option (List ℕ) → Type 0
Did Done left run polled old new = WroteAll ending.Done left run polled old new
Did Stuck left run polled old new = WroteAll ending.Stuck left run polled old new
Did (Cut node) left run polled old new = WroteAll (ending.Cut node) left run polled old new
Did WriteFault left run polled old new = WrotePart left run polled old new
Did other left run polled old new = DidNothing run polled old new

-- the journal of a run that ended as the status says was appended by as few writes as can be
abbrev pub WroteLiveByFewest : Status → Option (List ℕ) → List Logged → List (ℕ × Reply) → Option (List ℕ)
    → Option (List ℕ) → Option Pace → Option Pace → Type 0
WroteLiveByFewest status left run polled old new pace pace_new =
    (end : Ending) × (status ≡ status_by_end end) × (text : List ℕ) × Journals end left run polled text
    × Appends old new text × WritesByFewest pace pace_new (length text)

-- a first part of the journal was, and one write more failed
abbrev pub StoppedLiveByFewest : Option (List ℕ) → List Logged → List (ℕ × Reply) → Option (List ℕ)
    → Option (List ℕ) → Option Pace → Option Pace → Type 0
StoppedLiveByFewest left run polled old new pace pace_new =
    (end : Ending) × (text : List ℕ) × Journals end left run polled text × StopsByFewest pace pace_new old new text

-- the script has this fault, or this client more commands than its session may submit
abbrev pub IsUnfit : Option (List ℕ) → Status → Type 0
IsUnfit left (Refused fault) = HasFault left fault
IsUnfit left (Share client) = IsOverShare left client
IsUnfit left other = ⊥

-- the source failed at no read and gave no more than the input may have, its script has no fault, and no client has
-- too many commands
pub record IsGood (before after : SourceState) : Type 0 where
  pub no_read_fault : Rose before.faults after.faults → ⊥
  pub not_too_long : RoseBy (MAX_INPUT + 1) before.given after.given → ⊥
  pub no_fault : (fault : ScriptFault) → HasFault before.left fault → ⊥
  pub none_over : (client : ℕ) → IsOverShare before.left client → ⊥

-- there are no words, and nothing goes wrong: the input is good, no write failed, and memory wasn't wanting
pub record GoesWell (words : ℕ) (answer : Status) (before after : SourceState) (writes_before writes_after : ℕ) : Type 0 where
  pub no_words : words ≡ 0
  pub good : IsGood before after
  pub no_write_fault : Rose writes_before writes_after → ⊥
  pub memory : answer ≢ NoMemory

-- how the run ends
pub record Ends (words : ℕ) (answer : Status) (before after : SourceState) (writes_before writes_after : ℕ) : Type 0 where
  -- it is never cut
  pub never_cut : (node : ℕ) → answer ≢ Cut node
  -- where nothing goes wrong it ends at rest
  pub done_or_stuck : GoesWell words answer before after writes_before writes_after → (answer ≡ Done) ⊎ (answer ≡ Stuck)
  -- with nobody waiting, if the script is ordered
  pub ordered : GoesWell words answer before after writes_before writes_after → DenotesOrdered before.left → answer ≡ Done

-- the answer to so many words; and the source and the sink before and after, with what they tell of themselves
pub record Serves {S K : Type 0} (state : S → SourceState) (held : K → Option (List ℕ)) (write_faults : K → ℕ) (pace : K → Option Pace) (words : ℕ) (answer : Served) (source_before source_after : S) (sink_before sink_after : K) : Type 0 where
  -- what the run is, how it ended, what was polled, and what was written
  pub did : Did answer.status (state source_before).left answer.run.entries answer.polled.items (held sink_before) (held sink_after)
  -- each write was given all that was not written yet: of the whole journal, or until one failed
  pub few : IsEnding (outcome_of answer.status)
      → WroteLiveByFewest answer.status (state source_before).left answer.run.entries answer.polled.items
      (held sink_before) (held sink_after) (pace sink_before) (pace sink_after)
  pub few_failed : answer.status ≡ WriteFault
      → StoppedLiveByFewest (state source_before).left answer.run.entries answer.polled.items
      (held sink_before) (held sink_after) (pace sink_before) (pace sink_after)
  -- there is a word
  pub usage : answer.status ≡ Usage → 0 < words
  pub no_words : 0 < words → answer.status ≡ Usage
  pub unread : answer.status ≡ Usage → source_after ≡ source_before
  -- why there is no run
  pub refused : (fault : ScriptFault) → answer.status ≡ Refused fault → HasFault (state source_before).left fault
  pub share : (client : ℕ) → answer.status ≡ Share client → IsOverShare (state source_before).left client
  -- memory was wanting once bytes had come, and not before
  pub memory : answer.status ≡ NoMemory → Rose (state source_before).given (state source_after).given
  -- what the answer says of the source, and of the sink
  pub reading : answer.status ≢ Usage → SaysOfSource MAX_INPUT (outcome_of answer.status) (state source_before) (state source_after)
  pub writing : SaysOfSink (outcome_of answer.status) (write_faults sink_before) (write_faults sink_after)
  pub unwritten : WritesNothing (outcome_of answer.status) → sink_after ≡ sink_before
  -- no run is cut: each comes to rest, unless something goes wrong
  pub ends : Ends words answer.status (state source_before) (state source_after) (write_faults sink_before) (write_faults sink_after)
