use Rattle.lt_script.proofs.FaultOrder.{least_is_told, first_is_told}
use Rattle.lt_script.proofs.laws.law_faults.Goals as goal

pub returns-clause-line : goal.returns-clause-line
returns-clause-line c = least_is_told

pub returns-clause-text : goal.returns-clause-text
returns-clause-text c = first_is_told
