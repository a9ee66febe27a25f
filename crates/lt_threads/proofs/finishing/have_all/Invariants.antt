-- The first runners have all.
use Rattle.lt_threads.proofs.Whole.{HaveAllTo}
use Rattle.lt_threads.proofs.finishing.have_all.Given as goal

abbrev pub invariant-loop-place : goal.invariant-loop-place
invariant-loop-place l = HaveAllTo l.place l.fn.runners
