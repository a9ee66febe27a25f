use Rattle.std.proofs.Common.{rules}
use Rattle.lt_pool.proofs.StepLemmas.{releases, released_slot}
use Rattle.lt_pool.proofs.pool.Pool.release.Goals as goal

pub store-requires : goal.store-requires
store-requires g c = (
  search rules,
  search rules,
  releases _ _ _ _ _ _ c.requires.item.0 (search rules) (search rules) (search rules) (search rules) (search rules),
)

pub returns-clause-released : goal.returns-clause-released
returns-clause-released g c = released_slot _ _ c.args.seat.now.me c.store.new.seat.me (search rules) c.store.ensures.2
