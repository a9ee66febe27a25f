use Rattle.lt_waits.specs.Serves.{graph_of}
use Rattle.lt_waits.proofs.SoFar.{piece_more, waits_push}
use Rattle.lt_waits.proofs.lines.push_waits_of.Goals as goal

pub loop-other-preserved : goal.loop-other-preserved
loop-other-preserved c =
    piece_more c.args.script.now _ _ _ _ _ _ c.in_ok-push_waits_line.ensures c.loop-other.invariant (waits_push (graph_of c.args.graph.now) c.args.client c.loop-other.other)
