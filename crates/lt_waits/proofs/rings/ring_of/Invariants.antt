use Rattle.std.proofs.Common.{◌+◌, ◌-◌, length}
use Rattle.lt_waits.specs.Serves.{graph_of}
use Rattle.lt_waits.proofs.Walks.{IsOnWalk}
use Rattle.lt_waits.proofs.rings.ring_of.Given as goal

abbrev pub invariant-loop-next : goal.invariant-loop-next
invariant-loop-next l = IsOnWalk l.graph.clients (graph_of l.graph) l.clients l.walk.items l.next

abbrev pub decreases-loop-next : goal.decreases-loop-next
decreases-loop-next l = l.graph.clients + 1 - length l.walk.items
