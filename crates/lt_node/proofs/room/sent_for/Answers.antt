use Rattle.std.proofs.Common.{ap, arith}
use Rattle.lt_core.specs.Bound.{most}
use Rattle.lt_core.specs.CoreData.{waiting_here}
use Rattle.lt_node.proofs.room.sent_for.Goals as goal

pub most_sent-requires : goal.most_sent-requires
most_sent-requires c = omega (arith, c.requires.few, ap waiting_here c.core.ensures.state)

pub overflow_add-result : goal.overflow_add-result
overflow_add-result c = omega (arith, c.requires.few, ap waiting_here c.core.ensures.state, c.most_sent.ensures.within)

pub overflow_add-result-2 : goal.overflow_add-result-2
overflow_add-result-2 c =
    omega (arith, c.requires.few, ap waiting_here c.core.ensures.state, c.most_sent.ensures.within, c.requires.asks, c.brought.ensures.within)

pub returns : goal.returns
returns c = omega (arith, c.most_sent.ensures.most, ap most c.core.ensures.state, c.brought.ensures.brought)
