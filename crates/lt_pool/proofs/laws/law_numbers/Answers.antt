use Rattle.lt_pool.proofs.LawLemmas.{each_number}
use Rattle.lt_pool.proofs.laws.law_numbers.Goals as goal

pub returns : goal.returns
returns g c = each_number g.T.Same.continues
