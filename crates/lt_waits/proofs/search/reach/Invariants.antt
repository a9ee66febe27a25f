use Rattle.std.proofs.Common.{take, []}
use Rattle.lt_waits.specs.Search.{IsSearched, Reaches}
use Rattle.lt_waits.specs.Serves.{graph_of}
use Rattle.lt_waits.proofs.search.reach.Given as goal

abbrev pub invariant-loop-client : goal.invariant-loop-client
invariant-loop-client l = record {
  reached : Reaches l.waiters.clients (graph_of l.waiters) l.those l.steps [] l.found.items l.fn.search l.search;
  done : IsSearched l.waiters.clients (graph_of l.waiters) (take l.client-index l.those) l.search;
}
