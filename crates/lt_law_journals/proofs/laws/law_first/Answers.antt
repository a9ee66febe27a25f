use Rattle.lt_law_journals.proofs.Firsts.{first_bad, refused, bad_stays}
use Rattle.lt_law_journals.proofs.laws.law_first.Goals as goal

pub returns-clause-exact : goal.returns-clause-exact
returns-clause-exact c = λ script all k is_script is_short. (first_bad script all k is_script is_short, refused script all k is_script is_short)

pub returns-clause-stays : goal.returns-clause-stays
returns-clause-stays c = bad_stays
