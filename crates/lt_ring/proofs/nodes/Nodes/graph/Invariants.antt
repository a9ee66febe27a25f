use Rattle.std.proofs.Common.{◌≡◌}
use Rattle.lt_waits.specs.Serves.{marks}
use Rattle.lt_ring.specs.Seen.{waits_seen}
use Rattle.lt_ring.proofs.nodes.Nodes.graph.Given as goal

abbrev pub invariant-loop-client : goal.invariant-loop-client
invariant-loop-client l = l.pairs.items ≡ marks l.clients (waits_seen l.self) l.client
