use Rattle.std.proofs.Common.{◌∙◌, List, arith, refl, subst, sym, take_all}
use Rattle.lt_modes.specs.declared.ask.Ask.{Ask}
use Rattle.lt_node.specs.Sets.{WaitLess}
use Rattle.lt_node.proofs.CountLemmas.{WaitLess_new, WaitLess_old, some_left}
use Rattle.lt_node.proofs.counts.wait_less.Goals.{then-waits_first, else-waits_first}
use Rattle.lt_node.proofs.counts.wait_less.Goals as goal

pub count_less-requires : goal.count_less-requires
count_less-requires c =
    some_left c.args.asks.now c.args.gone.now c.loop-k.k c.args.counts.now.items c.loop-k.counts.items c.loop-k-test.true (sym c.waits_first.ensures ∙ c.if-waits_first.true) c.loop-k.invariant c.requires

pub loop-k-preserved : goal.loop-k-preserved
loop-k-preserved c = elim c.if-waits_first.branch [
  | then-waits_first w ↦
      rw w.counts-is (
      WaitLess_new c.args.asks.now c.args.gone.now c.loop-k.k c.args.counts.now.items c.loop-k.counts.items w.count_less.new.counts.items c.loop-k-test.true
      (sym c.waits_first.ensures ∙ w.if-waits_first.true) c.loop-k.invariant w.count_less.ensures.count w.count_less.ensures.each)
  | else-waits_first w ↦
      rw w.counts-is (
      WaitLess_old c.args.asks.now c.args.gone.now c.loop-k.k c.args.counts.now.items c.loop-k.counts.items c.loop-k-test.true
      (sym c.waits_first.ensures ∙ w.if-waits_first.false) c.loop-k.invariant)
]

pub loop-k-init : goal.loop-k-init
loop-k-init c = record { count = refl; each = λ client inside. omega arith }

pub returns : goal.returns
returns c =
    subst (λ (asks : List Ask). WaitLess asks c.args.gone.now c.args.counts.now.items c.loop-k.counts.items) (take_all c.loop-k.k c.args.asks.now c.loop-k-test.false) c.loop-k.invariant
