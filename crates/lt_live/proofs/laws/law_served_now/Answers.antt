use Rattle.lt_live.proofs.Finished.{shared_now, served_now}
use Rattle.lt_live.proofs.laws.law_served_now.Goals as goal

pub returns : goal.returns
returns c = record { shared = shared_now; served = served_now }
