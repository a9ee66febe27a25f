use Rattle.std.proofs.Common.{rules}
use Rattle.lt_pool.proofs.StepLemmas.{forwards}
use Rattle.lt_pool.proofs.pool.Pool.bring_forward.Goals as goal

pub load-requires : goal.load-requires
load-requires g c = (search rules, search rules, forwards _ _ _ _ _ _ (search rules) (search rules) (search rules))
