-- A command that came to no end has something against it.
use Rattle.std.proofs.Common.{◌≡◌, ◌≢◌, ℕ, Option, Some, None, refl, sym, subst, true}
use Rattle.lt_io.specs.Streams.{Rose, SourceState}
use Rattle.lt_call.specs.Outcomes.{SaysOfSource}
use Rattle.lt_call.proofs.Answering.{rose}
use Rattle.lt_words.specs.declared.command.Command.{Command}
use Rattle.lt_serve.specs.declared.status.Status.{Status}
use Rattle.lt_serve.specs.declared.status.Status.TheVariants.{Done, Stuck, Usage, Refused, TooLong, ReadFault, WriteFault, NoMemory, Cut, BadJournal}
use Rattle.lt_serve.specs.Causes.{IsRefusal, reads, limit_of}
use Rattle.lt_serve.specs.Serves.{IsGood, IsAnswered, IsComplete}
use Rattle.lt_serve.specs.Status.{outcome_of}

-- a command is answered so where nothing goes wrong, if it is where nothing goes wrong with its source and its sink
pub complete_of : (command : Command) (status : Status) (before after : SourceState) (w v : ℕ)
    → ((reads (Some command) ≡ true → IsGood command before after) → (Rose w v → ⊥) → status ≢ NoMemory → IsAnswered command status)
    → IsComplete (Some command) status before after w v
complete_of command status before after w v answered = λ well.
    let same : well.command ≡ command = one well.command well.is_asked in
    subst (λ (c : Command). IsAnswered c status) (sym same)
    (answered (subst (λ (c : Command). reads (Some c) ≡ true → IsGood c before after) same well.good) well.no_write_fault well.memory)
  where
    one : (other : Command) → Some command ≡ Some other → other ≡ command
    one other e = cc

refusal_answered : (command : Command) (status : Status) (before after : SourceState) (w v : ℕ)
    → IsRefusal command before.left status
    → (reads (Some command) ≡ true → SaysOfSource (limit_of (Some command)) (outcome_of status) before after)
    → (reads (Some command) ≡ true → IsGood command before after) → (Rose w v → ⊥) → status ≢ NoMemory → IsAnswered command status
refusal_answered command (Refused fault) before after w v h tells = λ good writes memory. absurd ((good h.0).no_fault fault h.1)
refusal_answered command TooLong before after w v h tells = λ good writes memory.
    absurd ((good h).not_too_long (rose _ before.given after.given ((tells h).too_long refl)))
refusal_answered command ReadFault before after w v h tells = λ good writes memory.
    absurd ((good h).no_read_fault (rose 1 before.faults after.faults ((tells h).read_fault refl)))
refusal_answered command NoMemory before after w v h tells = λ good writes memory. absurd (memory refl)
refusal_answered command (BadJournal line) before after w v h tells = λ good writes memory.
    absurd ((good h.0).no_bad_line h.1 line h.2)
refusal_answered command Usage before after w v h tells = absurd h
refusal_answered command Done before after w v h tells = absurd h
refusal_answered command Stuck before after w v h tells = absurd h
refusal_answered command (Cut node) before after w v h tells = absurd h
refusal_answered command WriteFault before after w v h tells = absurd h

pub refusal_complete : (command : Command) (status : Status) (before after : SourceState) (w v : ℕ)
    → IsRefusal command before.left status
    → (reads (Some command) ≡ true → SaysOfSource (limit_of (Some command)) (outcome_of status) before after)
    → IsComplete (Some command) status before after w v
refusal_complete command status before after w v h tells =
    complete_of command status before after w v (refusal_answered command status before after w v h tells)

-- words that are no command ask for nothing, and an answer that memory was wanting says so
pub none_complete : (status : Status) (before after : SourceState) (w v : ℕ) → IsComplete None status before after w v
none_complete status before after w v = λ well. not_some well.command well.is_asked
  where
    not_some : {A : Type 0} (command : Command) → None ≡ Some command → A
    not_some command e = absurd (cc)

pub memory_complete : (asked : Option Command) (before after : SourceState) (w v : ℕ) → IsComplete asked NoMemory before after w v
memory_complete asked before after w v = λ well. absurd (well.memory refl)
