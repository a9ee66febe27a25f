use Rattle.std.proofs.Common.{IfSome}
use Rattle.lt_waits.specs.Serves.{graph_of}
use Rattle.lt_waits.specs.Shortest.{IsRingOf}
use Rattle.lt_waits.proofs.Least.{IsLeastOf}
use Rattle.lt_waits.proofs.graph.WaitGraph.shortest_ring.Given as goal

-- of the rings through the clients so far none is shorter
abbrev pub invariant-loop-client : goal.invariant-loop-client
invariant-loop-client l = record {
  ring : IfSome l.shortest (λ ring. IsRingOf l.self.clients (graph_of l.self) ring.items);
  least : IsLeastOf (λ ring. ring.items) l.self.clients (graph_of l.self) l.client l.shortest;
}
