use Rattle.lt_law_journals.proofs.Firsts.{continued}
use Rattle.lt_law_journals.proofs.laws.law_continues.Goals as goal

pub returns : goal.returns
returns c = continued
