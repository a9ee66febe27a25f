-- Each clause is proved in Standing.
use Rattle.lt_apart.proofs.Standing.{opened_is_of_script, script_lasts, told_is_served}
use Rattle.lt_apart.proofs.laws.law_remote.Goals as goal

pub returns-clause-opened : goal.returns-clause-opened
returns-clause-opened c = opened_is_of_script

pub returns-clause-lasts : goal.returns-clause-lasts
returns-clause-lasts c = script_lasts

pub returns-clause-told : goal.returns-clause-told
returns-clause-told c = told_is_served
