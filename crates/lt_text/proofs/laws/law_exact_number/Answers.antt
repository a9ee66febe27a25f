use Rattle.lt_text.proofs.NumberLemmas.{exact_number_decimal}
use Rattle.lt_text.proofs.laws.law_exact_number.Goals as goal

pub returns : goal.returns
returns c = exact_number_decimal
