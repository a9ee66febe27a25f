-- What each answer says of reading and writing, and the line that tells it.
use Rattle.std.specs.Prelude.{ℕ, List, [], ◌++◌, codes, decimal}
use Rattle.lt_call.specs.declared.outcome.Outcome.{Outcome}
use Rattle.lt_call.specs.declared.outcome.Outcome.TheVariants as outcome
use Rattle.lt_call.specs.Outcomes.{fixed_text}
use Rattle.lt_nest_lines.specs.declared.answer.Answer.{Answer}
use Rattle.lt_nest_lines.specs.declared.answer.Answer.TheVariants.{Done, Usage, Refused, TooLong, ReadFault, WriteFault, NoMemory}

-- what it says of reading and of writing
abbrev pub outcome_of : Answer → Outcome
outcome_of Done = outcome.Done
outcome_of Usage = outcome.Usage
outcome_of (Refused line) = outcome.Refused
outcome_of TooLong = outcome.TooLong
outcome_of ReadFault = outcome.ReadFault
outcome_of WriteFault = outcome.WriteFault
outcome_of NoMemory = outcome.NoMemory

-- the line, without its line end; empty where none is written
abbrev pub status_line : Answer → List ℕ
status_line Done = []
status_line Usage = codes "locknest: usage: locknest"
status_line (Refused line) = codes "locknest: line " ++ decimal line
status_line other = codes "locknest: " ++ fixed_text (outcome_of other)
