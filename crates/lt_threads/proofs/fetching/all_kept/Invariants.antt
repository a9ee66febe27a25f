-- The loop over the runners.
use Rattle.lt_threads.proofs.Each.{KeptTo}
use Rattle.lt_threads.proofs.fetching.all_kept.Given as goal

abbrev pub invariant-loop-k : goal.invariant-loop-k
invariant-loop-k l = KeptTo l.k l.fn.runners
