use Rattle.std.proofs.Common.{arith}
use Rattle.lt_waits.proofs.Pairs.{void_more}
use Rattle.lt_waits.proofs.voids.push_voids.Goals as goal

pub loop-edge-preserved : goal.loop-edge-preserved
loop-edge-preserved c =
    void_more c.args.script.now c.args.edges.now c.loop-edge.edge-index _ c.args.out.now.items c.loop-edge.out.items c.push_pair.new.out.items
    (omega arith) c.loop-edge.invariant c.in_ok-push_pair.ensures
