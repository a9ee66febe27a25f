use Rattle.lt_keys.proofs.Found.{key_sets_are}
use Rattle.lt_keys.proofs.laws.law_key_sets.Goals as goal

pub returns : goal.returns
returns c = key_sets_are
