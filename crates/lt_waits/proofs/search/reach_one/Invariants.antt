use Rattle.std.proofs.Common.{◌∷◌, []}
use Rattle.lt_waits.specs.Search.{Reaches, unreached_in}
use Rattle.lt_waits.specs.Serves.{graph_of}
use Rattle.lt_waits.proofs.search.reach_one.Given as goal

abbrev pub invariant-loop-other : goal.invariant-loop-other
invariant-loop-other l = Reaches l.waiters.clients (graph_of l.waiters) (l.client ∷ []) l.steps l.fn.found.items l.found.items l.fn.search l.search

-- those that are left become fewer
abbrev pub decreases-loop-other : goal.decreases-loop-other
decreases-loop-other l = unreached_in l.waiters.clients l.search
