use Rattle.lt_serve.proofs.Stuck.{stuck_runs}
use Rattle.lt_serve.proofs.laws.law_stuck.Goals as goal

pub returns : goal.returns
returns c = stuck_runs
