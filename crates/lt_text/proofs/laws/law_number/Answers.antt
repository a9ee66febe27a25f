use Rattle.lt_text.proofs.NumberLemmas.{number_decimal}
use Rattle.lt_text.proofs.laws.law_number.Goals as goal

pub returns : goal.returns
returns c = number_decimal
