use Rattle.lt_modes.specs.Waiting.{parked_behind}
use Rattle.lt_node.proofs.AddedLemmas.{below_marked_all, below_marked_more, below_marked_none}
use Rattle.lt_node.proofs.behind.mark_parked.Goals as goal

pub loop-other-init : goal.loop-other-init
loop-other-init c = below_marked_none (λ other. parked_behind c.args.core.now.state other c.args.client) c.args.marks.now.items

pub loop-other-preserved : goal.loop-other-preserved
loop-other-preserved c =
    below_marked_more (λ other. parked_behind c.args.core.now.state other c.args.client) c.loop-other.other c.parked_behind.result c.args.marks.now.items c.loop-other.marks.items c.mark_if.new.marks.items
    c.parked_behind.ensures c.loop-other.invariant c.mark_if.ensures

pub returns : goal.returns
returns c =
    below_marked_all (λ other. parked_behind c.args.core.now.state other c.args.client) c.args.clients c.loop-other.other c.args.marks.now.items c.loop-other.marks.items
    c.requires c.loop-other-test.false c.loop-other.invariant
