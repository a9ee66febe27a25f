use Rattle.std.proofs.Common.{take}
use Rattle.lt_spec.specs.Holdings.{lines_of}
use Rattle.lt_tally.specs.LockTable.{IsTallied}
use Rattle.lt_tally.proofs.tally.apply_run.Given as goal

abbrev pub invariant-loop-k : goal.invariant-loop-k
invariant-loop-k l = IsTallied l.script l.tally (lines_of (take l.k l.run.entries))
