use Rattle.std.proofs.Common.{rules}
use Rattle.lt_pool.proofs.BadgeLemmas.{splits}
use Rattle.lt_pool.proofs.pool.Pool.split.Goals as goal

pub split_seat-seat-requires : goal.split_seat-seat-requires
split_seat-seat-requires g c = (search rules, search rules, splits _ _ _ _ (search rules) (search rules))
