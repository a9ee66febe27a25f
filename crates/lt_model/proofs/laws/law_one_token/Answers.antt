use Rattle.lt_model.proofs.laws.law_one_token.Goals as goal
use Rattle.lt_model.proofs.Runs.{one_token}

pub returns : goal.returns
returns c = one_token
