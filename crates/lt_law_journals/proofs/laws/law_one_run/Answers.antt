use Rattle.lt_law_journals.proofs.Accepting.{one_run}
use Rattle.lt_law_journals.proofs.laws.law_one_run.Goals as goal

pub returns : goal.returns
returns c = one_run
