-- The loop over the runners.
use Rattle.lt_threads.specs.Meeting.{Fetching}
use Rattle.lt_threads.proofs.fetching.fetch_all.Given as goal

abbrev pub invariant-loop-k : goal.invariant-loop-k
invariant-loop-k l = Fetching l.k l.initial.runners.items l.runners.items
