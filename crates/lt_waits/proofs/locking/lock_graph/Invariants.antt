use Rattle.std.proofs.Common.{◌≡◌}
use Rattle.lt_waits.specs.Serves.{graph_of, marks}
use Rattle.lt_waits.specs.Reasons.{by_lock}
use Rattle.lt_waits.proofs.locking.lock_graph.Given as goal

abbrev pub invariant-loop-client : goal.invariant-loop-client
invariant-loop-client l = l.pairs.items ≡ marks l.graph.clients (by_lock l.tallied.script l.tallied.lines (graph_of l.graph)) l.client
