use Rattle.lt_waits.specs.Serves.{graph_of}
use Rattle.lt_waits.proofs.SoFar.{piece_more, waits_so_far-push}
use Rattle.lt_waits.proofs.lines.push_waits.Goals as goal

pub loop-client-preserved : goal.loop-client-preserved
loop-client-preserved c =
    piece_more c.args.script.now _ _ _ _ _ _ c.in_ok-push_waits_of.ensures c.loop-client.invariant (waits_so_far-push c.args.graph.now.clients (graph_of c.args.graph.now) c.loop-client.client)
