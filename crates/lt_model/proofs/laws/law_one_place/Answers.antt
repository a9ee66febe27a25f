use Rattle.lt_model.proofs.laws.law_one_place.Goals as goal
use Rattle.lt_model.proofs.StandingMove.{standing_kept}
use Rattle.lt_model.proofs.Runs.{standing_in_runs, stands_once, one_place}

pub returns : goal.returns
returns c = record { step = standing_kept; run = standing_in_runs; stands = stands_once; place = one_place }
