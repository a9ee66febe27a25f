-- What each answer says of reading and writing, and the line that says it.
use Rattle.std.specs.Prelude.{ℕ, List, [], ◌++◌, codes, decimal}
use Rattle.lt_call.specs.declared.outcome.Outcome.{Outcome}
use Rattle.lt_call.specs.declared.outcome.Outcome.TheVariants as outcome
use Rattle.lt_call.specs.Outcomes.{fixed_text}
use Rattle.lt_script.specs.Fault.{text_of_fault}
use Rattle.lt_serve.specs.declared.status.Status.{Status}
use Rattle.lt_serve.specs.declared.status.Status.TheVariants.{Done, Stuck, Usage, Refused, TooLong, ReadFault, WriteFault, NoMemory, Cut, BadJournal}

-- what it says of reading and of writing
abbrev pub outcome_of : Status → Outcome
outcome_of Done = outcome.Done
outcome_of Stuck = outcome.Stuck
outcome_of Usage = outcome.Usage
outcome_of (Refused fault) = outcome.Refused
outcome_of TooLong = outcome.TooLong
outcome_of ReadFault = outcome.ReadFault
outcome_of WriteFault = outcome.WriteFault
outcome_of NoMemory = outcome.NoMemory
outcome_of (Cut node) = outcome.Cut
outcome_of (BadJournal line) = outcome.BadJournal

abbrev pub status_text : Status → List ℕ
status_text Done = []
status_text Stuck = []
status_text Usage = codes "lockrun: usage: run | sim first | sim SEED | check | make NODES CLIENTS COMMANDS SEED | soak SEED | order"
status_text (Refused fault) = codes "lockrun: " ++ text_of_fault fault
status_text (Cut node) = codes "lockrun: cut at node " ++ decimal node
status_text (BadJournal line) = codes "lockrun: line " ++ decimal line ++ codes ": journal"
status_text other = codes "lockrun: " ++ fixed_text (outcome_of other)
