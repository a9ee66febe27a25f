use Rattle.lt_counts.proofs.Adding.{adds_all}
use Rattle.lt_counts.proofs.laws.law_counts.Goals as goal

pub returns-clause-all : goal.returns-clause-all
returns-clause-all c = adds_all
