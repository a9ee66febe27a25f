use Rattle.std.proofs.Common.{arith}
use Rattle.lt_waits.proofs.Pairs.{reason_more}
use Rattle.lt_waits.proofs.edge_lines.push_void_edges.Goals as goal

pub loop-edge-preserved : goal.loop-edge-preserved
loop-edge-preserved c =
    reason_more c.args.tallied.now.script c.args.tallied.now.lines c.args.edges.now c.loop-edge.edge-index _
    c.args.out.now.items c.loop-edge.out.items c.push_void_edge.new.out.items (omega arith) c.loop-edge.invariant c.in_ok-push_void_edge.ensures
