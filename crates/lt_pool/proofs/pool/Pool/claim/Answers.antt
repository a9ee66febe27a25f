use Rattle.std.proofs.Common.{rules, Some}
use Rattle.lt_pool.proofs.pool.Pool.claim.Goals as goal

pub exchange-requires : goal.exchange-requires
exchange-requires g c = let taken = c.in_ok-mark.ensures.ok in (search rules, (Some taken.0, search (rules, taken.1)))
