-- The first callers polled all their replies.
use Rattle.lt_live_serve.proofs.Told.{ToldTo}
use Rattle.lt_live_serve.proofs.telling.tell_all.Given as goal

abbrev pub invariant-loop-client : goal.invariant-loop-client
invariant-loop-client l = ToldTo l._script l.client l.initial.stations.items l.stations.items l.callers.items
