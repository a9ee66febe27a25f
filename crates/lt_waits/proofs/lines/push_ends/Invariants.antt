use Rattle.std.proofs.Common.{◌≡◌, ◌++◌}
use Rattle.lt_waits.specs.Serves.{graph_of, waits_text}
use Rattle.lt_waits.proofs.SoFar.{ends_so_far}
use Rattle.lt_waits.proofs.lines.push_ends.Given as goal

abbrev pub invariant-loop-client : goal.invariant-loop-client
invariant-loop-client l = l.out.items ≡ l.fn.out.items ++ waits_text l.script (ends_so_far l.graph.clients (graph_of l.graph) l.client)
