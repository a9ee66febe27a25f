-- The loop over the runners.
use Rattle.lt_threads.proofs.Shares.{ScriptsTo}
use Rattle.lt_threads.proofs.joining.are_scripts.Given as goal

abbrev pub invariant-loop-k : goal.invariant-loop-k
invariant-loop-k l = ScriptsTo l.k l.fn.runners
