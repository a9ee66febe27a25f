use Rattle.std.proofs.Common.{◌≡◌, drop, filter_map}
use Rattle.std.specs.List.{list_all}
use Rattle.lt_modes.specs.Fits.{is_known, ask_if, parked_asks}
use Rattle.lt_core.proofs.one_set.Core.parked_known.Given as goal

abbrev pub invariant-loop-k : goal.invariant-loop-k
invariant-loop-k l =
    list_all (is_known l.self.node l.self.state) (filter_map ask_if (drop l.k l.self.state.parked)) ≡ list_all (is_known l.self.node l.self.state) (parked_asks l.self.state)
