-- Why an answer comes, and what it says of the source and the sink.
use Rattle.std.specs.Prelude.{◌≡◌, ◌↔◌, Bool, true, false, ℕ, Option, Some, None, IfSome, Ok, List}
use Rattle.lt_io.specs.Streams.{Rose, SourceState}
use Rattle.lt_script.specs.declared.fault.ScriptFault.{ScriptFault}
use Rattle.lt_script.specs.Reading.{read_of}
use Rattle.lt_spec.specs.Ordered.{IsOrdered}
use Rattle.lt_call.specs.Scripts.{HasFault, DenotesOrdered}
use Rattle.lt_words.specs.declared.command.Command.{Command}
use Rattle.lt_words.specs.declared.command.Command.TheVariants.{Run, SimFirst, Sim, Check, Make, Soak}
use Rattle.lt_modes.specs.Script.{ScriptData}
use Rattle.lt_checker.specs.declared.limits.TheConstants.{MAX_JOURNAL}
use Rattle.lt_checker.specs.declared.error.InputError.{InputError}
use Rattle.lt_checker.specs.declared.error.InputError.TheVariants as error
use Rattle.lt_checker.specs.Input.{HasFaultBefore, IsBad, WantsMemory}
use Rattle.lt_serve.specs.declared.limits.TheConstants.{MAX_INPUT}
use Rattle.lt_serve.specs.TopCall.{greatest_script}
use Rattle.lt_gen.specs.Sizes.{can_make}
use Rattle.lt_serve.specs.declared.status.Status.{Status}
use Rattle.lt_serve.specs.declared.status.Status.TheVariants.{Stuck, Usage, Refused, TooLong, ReadFault, NoMemory, BadJournal}

-- the command reads the source
abbrev pub reads : Option Command → Bool
reads None = false
reads (Some (Make version nodes clients commands seed)) = false
reads (Some (Soak seed)) = false
reads other = true

-- so many bytes its input may have
abbrev pub limit_of : Option Command → ℕ
limit_of (Some Check) = MAX_JOURNAL
limit_of other = MAX_INPUT

-- if the bytes are known, this is the first fault of the script that the command reads
abbrev pub HasFirstFault : Option Command → Option (List ℕ) → ScriptFault → Type 0
HasFirstFault (Some Check) left fault = HasFaultBefore left fault
HasFirstFault other left fault = HasFault left fault

-- the command makes a run, of an ordered script
abbrev pub RunsOrdered : Option Command → Option (List ℕ) → Type 0
RunsOrdered (Some SimFirst) left = DenotesOrdered left
RunsOrdered (Some (Sim seed)) left = DenotesOrdered left
RunsOrdered (Some Run) left = DenotesOrdered left
RunsOrdered (Some (Soak seed)) left = IsOrdered (greatest_script seed)
RunsOrdered other left = ⊥

-- why a command is answered so, where the source had these bytes left: each answer has a cause here but want of
-- memory, and but for the other ends of a run, of which `Did` speaks
pub record HasStatusCause (asked : Option Command) (left : Option (List ℕ)) (answer : Status) : Type 0 where
  pub usage : answer ≡ Usage ↔ asked ≡ None
  pub refused : (fault : ScriptFault) → answer ≡ Refused fault → (reads asked ≡ true) × HasFirstFault asked left fault
  pub bad_journal : (line : ℕ) → answer ≡ BadJournal line → (asked ≡ Some Check) × IsBad left line
  pub stuck : answer ≡ Stuck → RunsOrdered asked left → ⊥
  -- these come of reading alone
  pub read_fault : answer ≡ ReadFault → reads asked ≡ true
  pub too_long : answer ≡ TooLong → reads asked ≡ true

-- Which command may be answered that its run is stuck, at all.

-- if the bytes are known, the script that they denote isn't ordered
abbrev pub IsUnordered : Option (List ℕ) → Type 0
IsUnordered left = IfSome left (λ bytes. (script : ScriptData) → read_of bytes ≡ Ok script → IsOrdered script → ⊥)

-- a run that the command makes may end with a client waiting: its script isn't ordered
abbrev pub MayGetStuck : Option Command → Option (List ℕ) → Type 0
MayGetStuck (Some SimFirst) left = IsUnordered left
MayGetStuck (Some (Sim seed)) left = IsUnordered left
MayGetStuck (Some Run) left = IsUnordered left
MayGetStuck (Some (Soak seed)) left = IsOrdered (greatest_script seed) → ⊥
MayGetStuck other left = ⊥

-- where memory may be wanting, once a command reads: bytes came, and of what `check` read this is known
abbrev pub WantsToRead : Option Command → SourceState → SourceState → Type 0
WantsToRead (Some Check) before after = WantsMemory before after
WantsToRead other before after = Rose before.given after.given

-- why a command came to no end
abbrev pub IsRefusal : Command → Option (List ℕ) → Status → Type 0
IsRefusal command left (Refused fault) = (reads (Some command) ≡ true) × HasFirstFault (Some command) left fault
IsRefusal command left TooLong = reads (Some command) ≡ true
IsRefusal command left ReadFault = reads (Some command) ≡ true
IsRefusal command left NoMemory = Unit {0}
IsRefusal command left (BadJournal line) = (reads (Some command) ≡ true) × (command ≡ Check) × IsBad left line
IsRefusal command left other = ⊥

-- of a script that is to be made, the numbers are such that it can be
abbrev pub CanBeMade : Command → Type 0
CanBeMade (Make version nodes clients commands seed) = can_make version nodes clients commands ≡ true
CanBeMade other = Unit {0}

-- why an input is no script and journal, as a status
abbrev pub status_of_input : InputError → Status
status_of_input error.ReadFault = ReadFault
status_of_input error.TooLong = TooLong
status_of_input error.NoMemory = NoMemory
status_of_input (error.Refused fault) = Refused fault
status_of_input (error.BadJournal line) = BadJournal line
