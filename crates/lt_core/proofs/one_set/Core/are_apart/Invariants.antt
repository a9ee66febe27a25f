use Rattle.std.proofs.Common.{◌≡◌, ◌++◌, drop}
use Rattle.lt_modes.specs.Fits.{are_apart, parked_asks}
use Rattle.lt_core.proofs.one_set.Core.are_apart.Given as goal

abbrev pub invariant-loop-k : goal.invariant-loop-k
invariant-loop-k l = are_apart (drop l.k l.desk.desk.queue ++ parked_asks l.self.state) ≡ are_apart (l.desk.desk.queue ++ parked_asks l.self.state)
