use Rattle.lt_pool.proofs.LawLemmas.{each_refusal}
use Rattle.lt_pool.proofs.laws.law_refused_word.Goals as goal

pub returns : goal.returns
returns g c = each_refusal g.T.Same.continues
