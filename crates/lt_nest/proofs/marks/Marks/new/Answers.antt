use Rattle.std.proofs.Common.{refl, sym, ◌∙◌, arith}
use Rattle.lt_nest.proofs.Orphans.{walk_begins, walk_goes_on, walk_ends, walk_leaves}
use Rattle.lt_nest.proofs.marks.Marks.new.Goals as goal

pub loop-at-init : goal.loop-at-init
loop-at-init c = walk_begins c.args.transactions.now c.args.x _ (omega arith)

pub bounds-own-from : goal.bounds-own-from
bounds-own-from c = omega (arith, c.loop-at.invariant.walked, c.loop-at.invariant.places)

pub loop-at-preserved : goal.loop-at-preserved
loop-at-preserved c =
    rw c.from.ensures
    (walk_goes_on c.args.transactions.now c.args.x _ c.loop-at.at c.in-Some.up c.loop-at.own c.requires c.loop-at-test.true (omega arith) (sym c.parent.ensures ∙ c.in-Some.is) c.loop-at.invariant)

pub returns-in-None : goal.returns-in-None
returns-in-None c =
    rw c.from.ensures
    (walk_ends c.args.transactions.now c.args.x c.loop-at.at _ c.loop-at.own c.requires c.loop-at-test.true (omega arith) (sym c.parent.ensures ∙ c.in-None.is) c.loop-at.invariant refl refl)

pub returns : goal.returns
returns c = walk_leaves c.args.transactions.now c.args.x c.loop-at.at _ c.requires c.loop-at-test.false (omega arith) c.loop-at.invariant refl
