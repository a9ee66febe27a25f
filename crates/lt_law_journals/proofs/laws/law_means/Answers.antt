use Rattle.lt_law_journals.proofs.Accepting.{means}
use Rattle.lt_law_journals.proofs.laws.law_means.Goals as goal

pub returns : goal.returns
returns c = means
