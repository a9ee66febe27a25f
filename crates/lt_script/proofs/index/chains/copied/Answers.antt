use Rattle.std.proofs.Common.{◌∙◌, take_all}
use Rattle.lt_script.proofs.IndexLemmas.{copied_more}
use Rattle.lt_script.proofs.index.chains.copied.Goals as goal

pub loop-item-init : goal.loop-item-init
loop-item-init g c = c.in_ok-copy.ensures.items

pub loop-item-preserved : goal.loop-item-preserved
loop-item-preserved g c =
    copied_more c.args.items.now c.loop-item.copy.items c.push.new.self.items c.loop-item.item-index c.item-item.result c.copy.result c.in_ok-push.ensures.items c.loop-item.invariant c.copy.ensures c.item-item.is
    c.loop-item-test.true

pub returns : goal.returns
returns g c = c.loop-item.invariant ∙ take_all c.loop-item.item-index c.args.items.now c.loop-item-test.false
