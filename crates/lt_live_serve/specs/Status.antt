-- What each answer says of reading and writing, and the line that tells it.
use Rattle.std.specs.Prelude.{ℕ, List, [], ◌++◌, codes, Option, Some, None, decimal}
use Rattle.lt_call.specs.declared.outcome.Outcome.{Outcome}
use Rattle.lt_call.specs.declared.outcome.Outcome.TheVariants as outcome
use Rattle.lt_call.specs.Outcomes.{fixed_text}
use Rattle.lt_spec.specs.declared.ending.Ending.{Ending}
use Rattle.lt_spec.specs.declared.ending.Ending.TheVariants as ending
use Rattle.lt_script.specs.Fault.{text_of_fault}
use Rattle.lt_live_serve.specs.declared.status.Status.{Status}
use Rattle.lt_live_serve.specs.declared.status.Status.TheVariants.{Done, Stuck, Usage, Refused, TooLong, ReadFault, WriteFault, NoMemory, Cut, Share}

-- what it says of reading and of writing
abbrev pub outcome_of : Status → Outcome
outcome_of Done = outcome.Done
outcome_of Stuck = outcome.Stuck
outcome_of Usage = outcome.Usage
outcome_of (Refused fault) = outcome.Refused
outcome_of TooLong = outcome.TooLong
outcome_of ReadFault = outcome.ReadFault
outcome_of WriteFault = outcome.WriteFault
outcome_of NoMemory = outcome.NoMemory
outcome_of (Cut node) = outcome.Cut
outcome_of (Share client) = outcome.Share

abbrev pub line_of_status : Status → List ℕ
line_of_status Done = []
line_of_status Stuck = []
line_of_status Usage = codes "locklive: usage: locklive"
line_of_status (Refused fault) = codes "locklive: " ++ text_of_fault fault
line_of_status (Cut node) = codes "locklive: cut at node " ++ decimal node
line_of_status (Share client) = codes "locklive: too many commands of client " ++ decimal client
line_of_status other = codes "locklive: " ++ fixed_text (outcome_of other)

-- the node at which the run was cut
abbrev pub cut_node : Ending → Option ℕ
cut_node (ending.Cut node) = Some node
cut_node other = None

-- how a run ended, as a status
abbrev pub status_by_end : Ending → Status
status_by_end ending.Done = Done
status_by_end ending.Stuck = Stuck
status_by_end (ending.Cut node) = Cut node
