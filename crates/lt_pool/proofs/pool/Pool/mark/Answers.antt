use Rattle.std.proofs.Common.{rules}
use Rattle.lt_pool.proofs.StepLemmas.{claims, takes_slot, refused_slot}
use Rattle.lt_pool.proofs.pool.Pool.mark.Goals as goal

pub compare_exchange-found-requires : goal.compare_exchange-found-requires
compare_exchange-found-requires g c =
    (search rules, search rules, claims _ _ _ _ _ _ _ (search rules) (search rules) (search rules) (search rules))

pub returns-then-found-ne0-clause-err : goal.returns-then-found-ne0-clause-err
returns-then-found-ne0-clause-err g c =
    let was = c.args.seat.now.me in
    let is = c.compare_exchange-found.new.seat.me in
    let refused = c.compare_exchange-found.ensures.2.1 in
    (search rules, refused_slot _ _ _ was is (search rules) (refused (search rules)))

pub returns-clause-ok : goal.returns-clause-ok
returns-clause-ok g c =
    let was = c.args.seat.now.me in
    let is = c.compare_exchange-found.new.seat.me in
    let takes = c.compare_exchange-found.ensures.2.0 in
    takes_slot g.T.Same.continues _ _ was is (search rules) (takes (search rules))
