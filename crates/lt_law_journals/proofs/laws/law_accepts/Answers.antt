use Rattle.lt_law_journals.proofs.Accepting.{accepts}
use Rattle.lt_law_journals.proofs.laws.law_accepts.Goals as goal

pub returns : goal.returns
returns c = accepts
