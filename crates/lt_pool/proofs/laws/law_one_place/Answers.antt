use Rattle.lt_pool.proofs.RuleLemmas.{in_one_place}
use Rattle.lt_pool.proofs.laws.law_one_place.Goals as goal

pub returns : goal.returns
returns g c = in_one_place g.T.Same.continues
