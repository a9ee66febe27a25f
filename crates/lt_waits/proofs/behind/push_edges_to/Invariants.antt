use Rattle.std.proofs.Common.{◌≡◌, ◌++◌, All, take}
use Rattle.lt_waits.specs.Behind.{edges_to}
use Rattle.lt_waits.specs.Edges.{IsEdgeOf}
use Rattle.lt_waits.specs.Serves.{graph_of}
use Rattle.lt_waits.proofs.behind.push_edges_to.Given as goal

abbrev pub invariant-loop-client : goal.invariant-loop-client
invariant-loop-client l = record {
  edges : l.edges.items ≡ l.fn.edges.items ++ edges_to (graph_of l.locks) (graph_of l.graph) l.others (take l.client-index l.clients);
  within : All (IsEdgeOf l.graph.clients) l.edges.items;
}
