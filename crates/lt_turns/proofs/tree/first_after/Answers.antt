use Rattle.std.proofs.Common.{arith}
use Rattle.lt_turns.proofs.TreeLemmas.{leaf_more}
use Rattle.lt_turns.proofs.tree.first_after.Goals as goal

pub loop-leaf-preserved : goal.loop-leaf-preserved
loop-leaf-preserved c =
    let l = c.loop-leaf in
    leaf_more c.args.ranks.now c.args.here l.leaf l.first c.nearest_leaf-first.result l.invariant (omega (arith, l.auto.leaf, c.requires)) c.nearest_leaf-first.ensures
