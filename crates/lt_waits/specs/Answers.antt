-- What each answer says of reading and writing, and the line that tells it.
use Rattle.std.specs.Prelude.{ℕ, List, [], ◌++◌, codes, decimal}
use Rattle.lt_call.specs.declared.outcome.Outcome.{Outcome}
use Rattle.lt_call.specs.declared.outcome.Outcome.TheVariants as outcome
use Rattle.lt_call.specs.Outcomes.{fixed_text}
use Rattle.lt_script.specs.Fault.{text_of_fault}
use Rattle.lt_checker.specs.declared.error.InputError.{InputError}
use Rattle.lt_checker.specs.declared.error.InputError.TheVariants as error
use Rattle.lt_waits.specs.declared.answer.Answer.{Answer}
use Rattle.lt_waits.specs.declared.answer.Answer.TheVariants.{Done, Usage, Refused, TooLong, ReadFault, WriteFault, NoMemory, BadJournal}

-- what it says of reading and of writing
abbrev pub outcome_of : Answer → Outcome
outcome_of Done = outcome.Done
outcome_of Usage = outcome.Usage
outcome_of (Refused fault) = outcome.Refused
outcome_of TooLong = outcome.TooLong
outcome_of ReadFault = outcome.ReadFault
outcome_of WriteFault = outcome.WriteFault
outcome_of NoMemory = outcome.NoMemory
outcome_of (BadJournal line) = outcome.BadJournal

-- the line, without its line end; empty where none is written
abbrev pub answer_text : Answer → List ℕ
answer_text Done = []
answer_text Usage = codes "lockwaits: usage: lockwaits"
answer_text (Refused fault) = codes "lockwaits: " ++ text_of_fault fault
answer_text (BadJournal line) = codes "lockwaits: line " ++ decimal line ++ codes ": journal"
answer_text other = codes "lockwaits: " ++ fixed_text (outcome_of other)

-- why an input is no script and journal, as an answer
abbrev pub answer_of_input : InputError → Answer
answer_of_input error.ReadFault = ReadFault
answer_of_input error.TooLong = TooLong
answer_of_input error.NoMemory = NoMemory
answer_of_input (error.Refused fault) = Refused fault
answer_of_input (error.BadJournal line) = BadJournal line
