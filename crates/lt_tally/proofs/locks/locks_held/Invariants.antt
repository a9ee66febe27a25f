use Rattle.std.proofs.Common.{◌≡◌, take}
use Rattle.lt_spec.specs.Holdings.{holdings, lines_of}
use Rattle.lt_tally.proofs.locks.locks_held.Given as goal

abbrev pub invariant-loop-k : goal.invariant-loop-k
invariant-loop-k l = l.held.items ≡ holdings l.script (lines_of (take l.k l.run.entries))
