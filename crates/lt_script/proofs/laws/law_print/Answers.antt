use Rattle.lt_script.proofs.RoundTrip.{read_printed}
use Rattle.lt_script.proofs.laws.law_print.Goals as goal

pub returns : goal.returns
returns c = read_printed
