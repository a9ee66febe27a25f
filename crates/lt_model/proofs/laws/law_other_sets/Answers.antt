use Rattle.lt_model.proofs.laws.law_other_sets.Goals as goal
use Rattle.lt_model.proofs.ExactTry.{others_stay}

pub returns : goal.returns
returns c = others_stay
