use Rattle.lt_model.proofs.laws.law_served.Goals as goal
use Rattle.lt_model.proofs.ClocksGrow.{served_kept, served_in_runs}

pub returns : goal.returns
returns c = record { step = served_kept; run = served_in_runs }
