use Rattle.std.proofs.Common.{◌∙◌, List, arith, refl, subst, sym, take_all}
use Rattle.lt_modes.specs.declared.ask.Ask.{Ask}
use Rattle.lt_node.specs.Sets.{WaitMore}
use Rattle.lt_node.proofs.CountLemmas.{WaitMore_new, WaitMore_old, still_few}
use Rattle.lt_node.proofs.counts.wait_more.Goals.{then-waits_first, else-waits_first}
use Rattle.lt_node.proofs.counts.wait_more.Goals as goal

pub count_more-requires : goal.count_more-requires
count_more-requires c =
    still_few c.args.asks.now c.args.gone.now c.loop-k.k c.args.counts.now.items c.loop-k.counts.items (sym c.waits_first.ensures ∙ c.if-waits_first.true) c.loop-k.invariant c.requires

pub loop-k-preserved : goal.loop-k-preserved
loop-k-preserved c = elim c.if-waits_first.branch [
  | then-waits_first w ↦
      rw w.counts-is (
      WaitMore_new c.args.asks.now c.args.gone.now c.loop-k.k c.args.counts.now.items c.loop-k.counts.items w.count_more.new.counts.items c.loop-k-test.true
      (sym c.waits_first.ensures ∙ w.if-waits_first.true) c.loop-k.invariant w.count_more.ensures.count w.count_more.ensures.each)
  | else-waits_first w ↦
      rw w.counts-is (
      WaitMore_old c.args.asks.now c.args.gone.now c.loop-k.k c.args.counts.now.items c.loop-k.counts.items c.loop-k-test.true
      (sym c.waits_first.ensures ∙ w.if-waits_first.false) c.loop-k.invariant)
]

pub loop-k-init : goal.loop-k-init
loop-k-init c = record { count = refl; each = λ client inside. omega arith }

pub returns : goal.returns
returns c =
    subst (λ (asks : List Ask). WaitMore asks c.args.gone.now c.args.counts.now.items c.loop-k.counts.items) (take_all c.loop-k.k c.args.asks.now c.loop-k-test.false) c.loop-k.invariant
