use Rattle.std.proofs.Common.{◌+◌, length}
use Rattle.lt_waits.specs.Search.{unreached_in}
use Rattle.lt_waits.specs.Serves.{graph_of}
use Rattle.lt_waits.proofs.Rounds.{IsRound}
use Rattle.lt_waits.proofs.search.steps_to.Given as goal

abbrev pub invariant-loop-alloc : goal.invariant-loop-alloc
invariant-loop-alloc l = IsRound l.waiters.clients (graph_of l.waiters) l.goal l.steps l.layer.items l.search

-- those that are found are no longer left, and the layer before is gone
abbrev pub decreases-loop-alloc : goal.decreases-loop-alloc
decreases-loop-alloc l = unreached_in l.waiters.clients l.search + length l.layer.items
