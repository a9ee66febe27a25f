-- One set more is added.
use Rattle.std.proofs.Common.{arith}
use Rattle.lt_live_c.proofs.AddedSets.{no_set, adding_on}
use Rattle.lt_live_c.proofs.new_sets.add_sets.Goals as goal

pub loop-place-preserved : goal.loop-place-preserved
loop-place-preserved c =
    adding_on c.loop-place.place c.args.sets.now no_set c.in_ok-add_set.field-0 c.args.script.now c.loop-place.script c.add_set.new.script
    c.loop-place.invariant c.in_ok-add_set.ensures c.if-not-branch.false (omega (arith, c.loop-place.auto.place-end, c.loop-place-test.true))
