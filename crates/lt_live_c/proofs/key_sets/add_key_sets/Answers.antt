-- One set more is added.
use Rattle.std.proofs.Common.{arith}
use Rattle.lt_live_c.proofs.AddedKeys.{none_yet, key_added, key_refused}
use Rattle.lt_live_c.proofs.key_sets.add_key_sets.Goals as goal

pub loop-k-init : goal.loop-k-init
loop-k-init c = none_yet c.args.members c.args.count c.args.script.now

pub loop-k-preserved : goal.loop-k-preserved
loop-k-preserved c =
    key_added c.args.members c.loop-k.k c.args.count c.in_ok-add_key_set.field-0 c.args.script.now c.loop-k.script c.add_key_set.new.script
    c.loop-k.invariant c.in_ok-add_key_set.ensures c.if-not-branch.false (omega (arith, c.loop-k-test.true))

pub returns-then-not-branch : goal.returns-then-not-branch
returns-then-not-branch c =
    key_refused c.args.members c.loop-k.k c.args.count c.in_ok-add_key_set.field-0 c.args.script.now c.loop-k.script c.add_key_set.new.script
    c.loop-k.invariant c.in_ok-add_key_set.ensures c.if-not-branch.true (omega (arith, c.loop-k-test.true))
