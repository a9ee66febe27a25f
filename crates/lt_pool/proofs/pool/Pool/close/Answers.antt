use Rattle.std.proofs.Common.{rules, subst, ap, List}
use Rattle.lt_pool.specs.Rule.{EachContinues}
use Rattle.lt_pool.specs.PoolData.{PoolData}
use Rattle.lt_pool.proofs.ClosingLemmas.{leaves, left_continue}
use Rattle.lt_pool.proofs.pool.Pool.close.Goals as goal

pub taken_out-requires-clause-full : goal.taken_out-requires-clause-full
taken_out-requires-clause-full g c =
    let closed = c.close_with.ensures.values in
    let live = c.badge.invariant.0 in
    let left = leaves g.T.Same.continues _ _ _ _ _ live (search rules) (search rules) (search rules) closed.2 in
    (closed.1, left.full)

pub returns-clause-ok : goal.returns-clause-ok
returns-clause-ok g c =
    let closed = c.close_with.ensures.values in
    let live = c.badge.invariant.0 in
    let left = leaves g.T.Same.continues _ _ _ _ _ live (search rules) (search rules) (search rules) closed.2 in
    subst (λ (firsts : List g.row.T.Denot). EachContinues g.T.Same.continues firsts c.taken_out.result.items)
    (ap (λ (p : PoolData g.row.T.Denot). p.firsts) c.self.view_is)
    (left_continue g.T.Same.continues _ _ _ c.taken_out.ensures left)
