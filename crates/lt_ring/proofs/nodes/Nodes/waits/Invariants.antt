use Rattle.lt_ring.specs.Seen.{AreWaits}
use Rattle.lt_ring.proofs.nodes.Nodes.waits.Given as goal

abbrev pub invariant-loop-client : goal.invariant-loop-client
invariant-loop-client l = AreWaits l.self l.client l.waits.items
