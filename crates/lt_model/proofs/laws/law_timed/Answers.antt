use Rattle.lt_model.proofs.laws.law_timed.Goals as goal
use Rattle.lt_model.proofs.TimedMove.{timed_kept, timed_in_runs}

pub returns : goal.returns
returns c = record { step = timed_kept; run = timed_in_runs }
