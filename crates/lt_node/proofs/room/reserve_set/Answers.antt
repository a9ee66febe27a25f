use Rattle.std.proofs.Common.{ap, arith}
use Rattle.lt_core.specs.CoreData.{waiting_here}
use Rattle.lt_node.proofs.RoomLemmas.{few_still}
use Rattle.lt_node.proofs.room.reserve_set.Goals as goal

pub most_sent-requires : goal.most_sent-requires
most_sent-requires c =
    let few = few_still c.args.sets.now c.reserve.new.self c.args.set c.in_ok-reserve.ensures.same c.requires.few in
    omega (arith, few, ap waiting_here c.core.ensures.state)

pub overflow_add-result : goal.overflow_add-result
overflow_add-result c =
    let few = few_still c.args.sets.now c.reserve.new.self c.args.set c.in_ok-reserve.ensures.same c.requires.few in
    omega (arith, few, ap waiting_here c.core.ensures.state, c.most_sent.ensures.within)

pub returns-clause-small : goal.returns-clause-small
returns-clause-small c =
    let few = few_still c.args.sets.now c.reserve.new.self c.args.set c.in_ok-reserve.ensures.same c.requires.few in
    omega (arith, few, ap waiting_here c.core.ensures.state, c.most_sent.ensures.within)
