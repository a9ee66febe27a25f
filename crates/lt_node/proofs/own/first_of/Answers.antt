use Rattle.std.proofs.Common.{◌∙◌, sym}
use Rattle.lt_node.specs.NodeData.{state_of}
use Rattle.lt_node.proofs.OwnLemmas.{found_first, none_at_all, none_first, none_next, own_next}
use Rattle.lt_node.proofs.own.first_of.Goals as goal

pub loop-place-init : goal.loop-place-init
loop-place-init c = none_first c.args.node.now.script c.args.node.now.me (state_of c.args.node.now) c.args.own.now c.requires

pub runnable-requires-clause-client : goal.runnable-requires-clause-client
runnable-requires-clause-client c =
    (own_next c.args.node.now.script c.args.node.now.me (state_of c.args.node.now) c.args.own.now c.loop-place.place 0 c.loop-place-test.true c.loop-place.invariant).below

pub runnable-requires-clause-home : goal.runnable-requires-clause-home
runnable-requires-clause-home c =
    (own_next c.args.node.now.script c.args.node.now.me (state_of c.args.node.now) c.args.own.now c.loop-place.place 0 c.loop-place-test.true c.loop-place.invariant).here

pub returns-then-runnable : goal.returns-then-runnable
returns-then-runnable c =
    found_first c.args.node.now.script c.args.node.now.me (state_of c.args.node.now) c.args.own.now c.loop-place.place 0 c.loop-place-test.true c.loop-place.invariant
    (sym c.if-runnable.true ∙ c.runnable.ensures)

pub loop-place-preserved : goal.loop-place-preserved
loop-place-preserved c =
    none_next c.args.node.now.script c.args.node.now.me (state_of c.args.node.now) c.args.own.now c.loop-place.place 0 c.loop-place-test.true c.loop-place.invariant
    (sym c.if-runnable.false ∙ c.runnable.ensures)

pub returns : goal.returns
returns c = none_at_all c.args.node.now.script c.args.node.now.me (state_of c.args.node.now) c.args.own.now c.loop-place.place c.loop-place-test.false c.loop-place.invariant
