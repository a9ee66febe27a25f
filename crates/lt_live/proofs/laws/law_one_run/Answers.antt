use Rattle.lt_live.proofs.WholeRuns.{one_whole_run}
use Rattle.lt_live.proofs.laws.law_one_run.Goals as goal

pub returns : goal.returns
returns c = one_whole_run
