use Rattle.lt_waits.proofs.BehindAll.{behind_are_all}
use Rattle.lt_waits.proofs.laws.law_behind.Goals as goal

pub returns : goal.returns
returns c = record { all = behind_are_all }
