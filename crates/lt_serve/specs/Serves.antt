-- What a command answers where nothing goes wrong.
use Rattle.std.specs.Prelude.{◌≡◌, ◌≢◌, ◌<◌, true, ℕ, ◌+◌, length, Option, Some, ◌⊎◌, List, Err, false}
use Rattle.lt_io.specs.Streams.{Rose, RoseBy, SourceState, Pace}
use Rattle.lt_script.specs.declared.fault.ScriptFault.{ScriptFault}
use Rattle.lt_script.specs.Reading.{read_of}
use Rattle.lt_words.specs.declared.command.Command.{Command}
use Rattle.lt_words.specs.declared.command.Command.TheVariants.{Check, Make, Order, Run, SimFirst, Sim, Soak}
use Rattle.lt_checker.specs.Input.{IsBad}
use Rattle.lt_call.specs.Outcomes.{IsEnding, SaysOfSource, SaysOfSink, WritesNothing}
use Rattle.lt_serve.specs.declared.status.Status.{Status}
use Rattle.lt_serve.specs.declared.status.Status.TheVariants.{Done, WriteFault, NoMemory, Stuck, Cut, Refused}
use Rattle.lt_serve.specs.Causes.{RunsOrdered, HasFirstFault, reads, limit_of, HasStatusCause, WantsToRead}
use Rattle.lt_serve.specs.Status.{outcome_of}
use Rattle.lt_serve.specs.TopCall.{Did, WroteByFewest, StoppedByFewest}
use Rattle.lt_serve.specs.declared.serving.Served.{Served}

-- the source failed at no read and gave no more than the input may have, and its bytes are known: their script has no
-- fault, and the journal that `check` reads has no bad line
pub record IsGood (command : Command) (before after : SourceState) : Type 0 where
  pub no_read_fault : Rose before.faults after.faults → ⊥
  pub not_too_long : RoseBy (limit_of (Some command) + 1) before.given after.given → ⊥
  pub no_fault : (fault : ScriptFault) → HasFirstFault (Some command) before.left fault → ⊥
  pub no_bad_line : command ≡ Check → (line : ℕ) → IsBad before.left line → ⊥

-- `make`, `check` and `order` are done; every other command has made a run to its end, which is Done, Stuck or Cut:
-- of which end it is, and that a node met its limit at Cut, `Did` speaks
abbrev pub IsAnswered : Command → Status → Type 0
IsAnswered (Make version nodes clients commands seed) answer = answer ≡ Done
IsAnswered Check answer = answer ≡ Done
IsAnswered Order answer = answer ≡ Done
IsAnswered other answer = IsEnding (outcome_of answer)

-- the words are a command, and nothing goes wrong: its input is good, if it reads one, no write failed, and memory
-- wasn't wanting
pub record GoesWell (asked : Option Command) (answer : Status) (before after : SourceState) (writes_before writes_after : ℕ) : Type 0 where
  pub command : Command
  pub is_asked : asked ≡ Some command
  pub good : reads (Some command) ≡ true → IsGood command before after
  pub no_write_fault : Rose writes_before writes_after → ⊥
  pub memory : answer ≢ NoMemory

-- where nothing goes wrong, the command is answered so
abbrev pub IsComplete : Option Command → Status → SourceState → SourceState → ℕ → ℕ → Type 0
IsComplete asked answer before after w v = (well : GoesWell asked answer before after w v) → IsAnswered well.command answer

-- That every run comes to rest, where a node may make more moves than any run has.

-- no run is cut: each comes to rest, unless something goes wrong
pub record Ends (asked : Option Command) (answer : Status) (before after : SourceState) (writes_before writes_after : ℕ) : Type 0 where
  pub never_cut : (node : ℕ) → answer ≢ Cut node
  -- where nothing goes wrong, the command is done, or its run is at rest with a client waiting
  pub done_or_stuck : GoesWell asked answer before after writes_before writes_after → (answer ≡ Done) ⊎ (answer ≡ Stuck)
  -- and of an ordered script it is done: at rest, and no client waits
  pub ordered : GoesWell asked answer before after writes_before writes_after → RunsOrdered asked before.left → answer ≡ Done

-- What was read of an input, and why it is refused.

-- the bytes have this fault, or memory was wanting, which is so only where there are some
abbrev pub IsFaultOf : List ℕ → Status → Type 0
IsFaultOf bytes (Refused fault) = read_of bytes ≡ Err fault
IsFaultOf bytes NoMemory = 0 < length bytes
IsFaultOf bytes other = ⊥

-- All that the top call says of an answer.

-- the answer to this command, or to words that are none, where a node makes up to so many moves; and the source and
-- the sink before and after, with what they tell of themselves
pub record Serves {S K : Type 0} (state : S → SourceState) (held : K → Option (List ℕ)) (write_faults : K → ℕ) (pace : K → Option Pace) (moves : ℕ) (asked : Option Command) (answer : Served) (source_before source_after : S) (sink_before sink_after : K) : Type 0 where
  -- what the run is, how it ended, and what was written
  pub did : Did moves asked answer.status (state source_before).left answer.run.entries (held sink_before) (held sink_after)
  -- each write was given all that was not written yet: of the whole text, or until one failed
  pub few : IsEnding (outcome_of answer.status)
      → WroteByFewest moves asked answer.status (state source_before).left answer.run.entries
      (held sink_before) (held sink_after) (pace sink_before) (pace sink_after)
  pub few_failed : answer.status ≡ WriteFault
      → StoppedByFewest moves asked (state source_before).left answer.run.entries
      (held sink_before) (held sink_after) (pace sink_before) (pace sink_after)
  -- why the answer comes
  pub causes : HasStatusCause asked (state source_before).left answer.status
  -- memory was wanting: for the words, before anything was read, or where it may be for a command that reads
  pub memory : answer.status ≡ NoMemory → reads asked ≡ true
      → (source_after ≡ source_before) ⊎ WantsToRead asked (state source_before) (state source_after)
  -- what it says of the source, and of the sink
  pub reading : reads asked ≡ true → SaysOfSource (limit_of asked) (outcome_of answer.status) (state source_before) (state source_after)
  pub unread : reads asked ≡ false → source_after ≡ source_before
  pub writing : SaysOfSink (outcome_of answer.status) (write_faults sink_before) (write_faults sink_after)
  pub unwritten : WritesNothing (outcome_of answer.status) → sink_after ≡ sink_before
  -- what it is where nothing goes wrong
  pub complete : IsComplete asked answer.status (state source_before) (state source_after) (write_faults sink_before) (write_faults sink_after)
