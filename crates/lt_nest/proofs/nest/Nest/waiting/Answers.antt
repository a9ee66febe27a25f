use Rattle.std.specs.VecDeque.{deque_capacity}
use Rattle.lt_nest.specs.Calls.{NestState}
use Rattle.lt_nest.proofs.TalliedNests.{wish_read}
use Rattle.lt_nest.proofs.nest.Nest.waiting.Goals as goal

pub returns : goal.returns
returns c =
    let st : NestState = record { transactions = c.self.inside.transactions.items; sets = c.self.inside.sets.items; grants = c.self.inside.grants.items; asked = c.self.inside.asked } in
    wish_read st c.args.self.now c.args.x c.self.inside.tallies.items c.deref-2.result.now (deque_capacity c.self.inside.grants) c.deref.result.now c.wish.result c.self.invariant c.self.view_is
    c.deref.ensures.value c.deref-2.ensures.value c.wish.ensures
