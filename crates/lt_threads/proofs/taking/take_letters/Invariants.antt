-- The loop of letters.
use Rattle.std.proofs.Common.{◌-◌, length}
use Rattle.lt_runner.specs.Kept.{Grew}
use Rattle.lt_threads.proofs.taking.take_letters.Given as goal

abbrev pub invariant-letters : goal.invariant-letters
invariant-letters g l = Grew l.initial.runner l.runner

abbrev pub decreases-letters : goal.decreases-letters
decreases-letters g l = l.runner.limit - length l.runner.log.entries
