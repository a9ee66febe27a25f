-- What an outcome says of reading and of writing, and with which exit status and which text.
use Rattle.std.specs.Prelude.{◌≡◌, ◌≢◌, ◌≤◌, ◌<◌, ◌+◌, Bool, true, false, ℕ, List, [], codes, IfSome, length}
use Rattle.std.specs.Io.KnownBytes.{IsAtEnd}
use Rattle.lt_io.specs.Streams.{CountsFaults, Rose, SourceState}
use Rattle.lt_io.specs.declared.whole.ReadFailure.{ReadFailure}
use Rattle.lt_io.specs.declared.whole.ReadFailure.TheVariants.{Memory, Failed, TooLong as Long}
use Rattle.lt_call.specs.declared.outcome.Outcome.{Outcome}
use Rattle.lt_call.specs.declared.outcome.Outcome.TheVariants.{Done, Usage, Refused, TooLong, Stuck, ReadFault, WriteFault, NoMemory, Cut, BadJournal, Share}

-- the exit status of each program
abbrev pub exit_code : Outcome → ℕ
exit_code Done = 0
exit_code Usage = 1
exit_code Refused = 2
exit_code TooLong = 2
exit_code Stuck = 3
exit_code ReadFault = 4
exit_code WriteFault = 5
exit_code NoMemory = 6
exit_code Cut = 7
exit_code BadJournal = 8
exit_code Share = 10

-- the words that say it, where they are the same in each program and name nothing
abbrev pub fixed_text : Outcome → List ℕ
fixed_text TooLong = codes "input too long"
fixed_text ReadFault = codes "read fault"
fixed_text WriteFault = codes "write fault"
fixed_text NoMemory = codes "no memory"
fixed_text other = []

-- a line says it on standard error
abbrev pub has_line : Outcome → Bool
has_line Done = false
has_line Stuck = false
has_line other = true

-- all was read, and what was made of it was written
abbrev pub IsEnding : Outcome → Type 0
IsEnding Done = Unit {0}
IsEnding Stuck = Unit {0}
IsEnding Cut = Unit {0}
IsEnding other = ⊥

-- all was read, and it is refused
abbrev pub IsRefused : Outcome → Type 0
IsRefused Refused = Unit {0}
IsRefused BadJournal = Unit {0}
IsRefused Share = Unit {0}
IsRefused other = ⊥

-- all was read
abbrev pub HasRead : Outcome → Type 0
HasRead Usage = ⊥
HasRead TooLong = ⊥
HasRead ReadFault = ⊥
HasRead NoMemory = ⊥
HasRead other = Unit {0}

-- nothing was written
abbrev pub WritesNothing : Outcome → Type 0
WritesNothing Done = ⊥
WritesNothing Stuck = ⊥
WritesNothing Cut = ⊥
WritesNothing WriteFault = ⊥
WritesNothing other = Unit {0}

-- nothing more is told with it than the outcome
abbrev pub IsPlain : Outcome → Type 0
IsPlain Done = Unit {0}
IsPlain Usage = Unit {0}
IsPlain TooLong = Unit {0}
IsPlain ReadFault = Unit {0}
IsPlain WriteFault = Unit {0}
IsPlain NoMemory = Unit {0}
IsPlain other = ⊥

-- the outcomes of reading bytes
abbrev pub IsReadFailure : Outcome → Type 0
IsReadFailure TooLong = Unit {0}
IsReadFailure ReadFault = Unit {0}
IsReadFailure NoMemory = Unit {0}
IsReadFailure other = ⊥

-- why nothing is to be written: reading failed, or memory ran out, or what was read is refused, for this reason
abbrev pub IsRefusal : Type 0 → Outcome → Type 0
IsRefusal reason TooLong = Unit {0}
IsRefusal reason ReadFault = Unit {0}
IsRefusal reason NoMemory = Unit {0}
IsRefusal reason Refused = reason
IsRefusal reason BadJournal = reason
IsRefusal reason Share = reason
IsRefusal reason other = ⊥

-- why a source could not be read, as an outcome
abbrev pub outcome_of_failure : ReadFailure → Outcome
outcome_of_failure Memory = NoMemory
outcome_of_failure Failed = ReadFault
outcome_of_failure Long = TooLong

-- what it says of the source, before and after, where the input may have so many bytes
pub record SaysOfSource (limit : ℕ) (outcome : Outcome) (before after : SourceState) : Type 0 where
  -- it gave one byte more than that, or no more than that
  pub too_long : outcome ≡ TooLong → CountsFaults (limit + 1) before.given after.given
  pub not_too_long : outcome ≢ TooLong → after.given ≤ before.given + limit
  -- and if it tells its bytes, it had more
  pub too_many_left : outcome ≡ TooLong → IfSome before.left (λ bytes. limit < length bytes)
  -- one read failed, or none
  pub read_fault : outcome ≡ ReadFault → CountsFaults 1 before.faults after.faults
  pub no_read_fault : outcome ≢ ReadFault → after.faults ≡ before.faults
  -- it came to its end, and if it tells its bytes, it has none left
  pub whole : HasRead outcome → CountsFaults 1 before.ends after.ends
  pub used_up : HasRead outcome → IsAtEnd after.left

-- bytes of the source came, and its end was not found
pub record CameInPart (before after : SourceState) : Type 0 where
  pub some : Rose before.given after.given
  pub no_end : after.ends ≡ before.ends

-- what it says of the sink's count of faults: one write failed, or none
pub record SaysOfSink (outcome : Outcome) (before after : ℕ) : Type 0 where
  pub write_fault : outcome ≡ WriteFault → CountsFaults 1 before after
  pub no_write_fault : outcome ≢ WriteFault → after ≡ before
