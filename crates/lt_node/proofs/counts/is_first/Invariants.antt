use Rattle.std.proofs.Common.{◌≡◌, false, take}
use Rattle.lt_modes.specs.Fits.{has_client}
use Rattle.lt_node.proofs.counts.is_first.Given as goal

abbrev pub invariant-loop-j : goal.invariant-loop-j
invariant-loop-j l = has_client l.client (take l.j l.asks) ≡ false
