use Rattle.std.proofs.Common.{◌≡◌, ◌==◌, ◌&&◌, drop, filter_map}
use Rattle.std.specs.List.{list_any}
use Rattle.lt_modes.specs.declared.ask.Ask.{Ask}
use Rattle.lt_modes.specs.Fits.{ask_if}
use Rattle.lt_modes.specs.Waiting.{has_older, parked_behind}
use Rattle.lt_core.proofs.one_set.Core.parked_behind.Given as goal

abbrev pub invariant-loop-k : goal.invariant-loop-k
invariant-loop-k l =
    list_any (λ (ask : Ask). ask.client == l.client && has_older l.self.state l.other ask) (filter_map ask_if (drop l.k l.self.state.parked))
    ≡ parked_behind l.self.state l.other l.client
