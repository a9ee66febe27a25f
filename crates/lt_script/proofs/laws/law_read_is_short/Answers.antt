use Rattle.lt_script.proofs.ShortScripts.{read_is_short}
use Rattle.lt_script.proofs.laws.law_read_is_short.Goals as goal

pub returns : goal.returns
returns c = read_is_short
