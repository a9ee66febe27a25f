use Rattle.std.proofs.Common.{◌≡◌, ◌<◌, ◌+◌, ◌++◌, ℕ, All}
use Rattle.lt_waits.specs.Behind.{behind, behind_from}
use Rattle.lt_waits.specs.Edges.{IsEdgeOf}
use Rattle.lt_waits.specs.Serves.{graph_of}
use Rattle.lt_waits.proofs.behind.behind.Given as goal

-- with those of the rounds that are left these are all
abbrev pub invariant-loop-round : goal.invariant-loop-round
invariant-loop-round l = record {
  edges : (k : ℕ) → k + l._round ≡ l.graph.clients
      → l.edges.items ++ behind_from k (graph_of l.locks) (graph_of l.graph) l.layer.items l.left.items ≡ behind l.graph.clients (graph_of l.locks) (graph_of l.graph) l.clients;
  within : All (IsEdgeOf l.graph.clients) l.edges.items;
  layer : All (λ c. c < l.graph.clients) l.layer.items;
  left : All (λ c. c < l.graph.clients) l.left.items;
}
