use Rattle.std.proofs.Common.{◌≡◌, ◌<◌, ◌+◌, ℕ}
use Rattle.lt_spec.specs.Rings.{walk_end, walk_end_from}
use Rattle.lt_waits.specs.Serves.{graph_of}
use Rattle.lt_waits.proofs.rings.walk_end.Given as goal

-- the walk goes on from here with the steps that are left
abbrev pub invariant-loop-step : goal.invariant-loop-step
invariant-loop-step l = record {
  within : l.last < l.graph.clients;
  on : (k : ℕ) → k + l._step ≡ l.graph.clients → walk_end_from k l.graph.clients (graph_of l.graph) l.last ≡ walk_end l.graph.clients (graph_of l.graph) l.client;
}
