use Rattle.lt_law_journals.proofs.Inputs.{settled}
use Rattle.lt_law_journals.proofs.laws.law_settled.Goals as goal

pub returns : goal.returns
returns c = settled
