use Rattle.std.proofs.Common.{◌≡◌, ◌++◌, drop}
use Rattle.std.specs.List.{list_all}
use Rattle.lt_modes.specs.Fits.{is_known, parked_asks}
use Rattle.lt_core.proofs.one_set.Core.are_known.Given as goal

abbrev pub invariant-loop-k : goal.invariant-loop-k
invariant-loop-k l =
    list_all (is_known l.self.node l.self.state) (drop l.k l.desk.desk.queue ++ parked_asks l.self.state)
    ≡ list_all (is_known l.self.node l.self.state) (l.desk.desk.queue ++ parked_asks l.self.state)
