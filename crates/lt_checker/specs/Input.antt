-- What an input says that is a script and a journal, and why it says nothing.
use Rattle.std.specs.Prelude.{◌≡◌, ◌⊎◌, ℕ, ◌+◌, ◌≤◌, ◌<◌, List, [], Option, Some, IfSome, Ok, Err, take, drop, length}
use Rattle.lt_io.specs.Streams.{CountsFaults, Rose, SourceState, IsReadWhole}
use Rattle.lt_io.specs.declared.whole.ReadFailure.{ReadFailure}
use Rattle.lt_io.specs.declared.whole.ReadFailure.TheVariants.{Memory, Failed, TooLong as Long}
use Rattle.lt_modes.specs.Script.{ScriptData}
use Rattle.lt_spec.specs.World.{Logged}
use Rattle.lt_spec.specs.Script.{IsScript}
use Rattle.lt_text.specs.Text.{lines}
use Rattle.lt_script.specs.declared.fault.ScriptFault.{ScriptFault}
use Rattle.lt_script.specs.Reading.{read_of}
use Rattle.lt_journal.specs.Split.{input_parts}
use Rattle.lt_world.specs.Fields.{WorldData}
use Rattle.lt_law_journals.specs.Checking.{IsFirstBadIn, IsFinished, journal_lines}
use Rattle.lt_checker.specs.Checker.{AreGoodToLast}
use Rattle.lt_checker.specs.declared.limits.TheConstants.{MAX_JOURNAL}
use Rattle.lt_checker.specs.declared.error.InputError.{InputError}
use Rattle.lt_checker.specs.declared.error.InputError.TheVariants.{ReadFault, TooLong, NoMemory, Refused, BadJournal}

-- if the bytes are known, their lines before the journal denote this script
abbrev pub DenotesBefore : Option (List ℕ) → ScriptData → Type 0
DenotesBefore left script = IfSome left (λ bytes. read_of (take (input_parts bytes).script bytes) ≡ Ok script)

-- if the bytes are known, this is the first fault of the lines before the journal
abbrev pub HasFaultBefore : Option (List ℕ) → ScriptFault → Type 0
HasFaultBefore left fault = IfSome left (λ bytes. read_of (take (input_parts bytes).script bytes) ≡ Err fault)

-- if the bytes are known, the lines of the journal in them are those of this run's text
abbrev pub IsJournalOf : Option (List ℕ) → ScriptData → List Logged → Type 0
IsJournalOf left script run =
    IfSome left (λ bytes. lines (drop (input_parts bytes).journal bytes) ≡ journal_lines script run)

-- the input has this first bad line
abbrev pub IsBad : Option (List ℕ) → ℕ → Type 0
IsBad left line =
    (script : ScriptData) × IsScript script × DenotesBefore left script × IfSome left (IsFirstBadIn script line)

-- the input is this script and the journal of a run of it that ended at rest, in this world
pub record IsEndedRun (left : Option (List ℕ)) (script : ScriptData) (world : WorldData) : Type 0 where
  pub denoted : DenotesBefore left script
  pub accepted : IsJournalOf left script world.run
  pub finished : IsFinished script world.run
  pub script_is : world.script ≡ script

-- Where memory may be wanting, once an input was read and while it is read.

-- the lines before the journal denote this script, and of those of the journal none but the last is bad
pub record IsGoodToLast (bytes : List ℕ) : Type 0 where
  pub script : ScriptData
  pub is_script : IsScript script
  pub denoted : DenotesBefore (Some bytes) script
  pub last : AreGoodToLast script (lines (drop (input_parts bytes).journal bytes))

-- once these bytes were read, memory may be wanting: nothing stands after a line `journal`, or no line but the last is
-- bad
abbrev pub MayWantMemory : List ℕ → Type 0
MayWantMemory bytes = (drop (input_parts bytes).journal bytes ≡ []) ⊎ IsGoodToLast bytes

-- where memory may be wanting: bytes came, and the source was not found at its end, or what it had left is so
pub record WantsMemory (before after : SourceState) : Type 0 where
  pub came : Rose before.given after.given
  pub good : (after.ends ≡ before.ends) ⊎ IfSome before.left MayWantMemory

-- why an input could not be read, as what an input is answered
abbrev pub error_of : ReadFailure → InputError
error_of Memory = NoMemory
error_of Failed = ReadFault
error_of Long = TooLong

-- why an input says nothing, and what its source tells before and after: one read failed, or it gave one byte more than
-- an input may have, and had as many left if it tells them, or memory was refused where it may be wanting, or it was read
-- whole, and has this fault or this first bad line
abbrev pub FailsInput : InputError → SourceState → SourceState → Type 0
FailsInput ReadFault before after = CountsFaults 1 before.faults after.faults × (after.given ≤ before.given + MAX_JOURNAL)
FailsInput TooLong before after =
    CountsFaults (MAX_JOURNAL + 1) before.given after.given × (after.faults ≡ before.faults)
    × IfSome before.left (λ bytes. MAX_JOURNAL < length bytes)
FailsInput NoMemory before after =
    (after.given ≤ before.given + MAX_JOURNAL) × (after.faults ≡ before.faults) × WantsMemory before after
FailsInput (Refused fault) before after = HasFaultBefore before.left fault × IsReadWhole MAX_JOURNAL before after
FailsInput (BadJournal line) before after = IsBad before.left line × IsReadWhole MAX_JOURNAL before after
