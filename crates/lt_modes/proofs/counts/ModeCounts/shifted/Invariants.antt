use Rattle.lt_modes.specs.FiveModes.{mask_of}
use Rattle.lt_modes.proofs.PlaceLemmas.{Shifting}
use Rattle.lt_modes.proofs.counts.ModeCounts.shifted.Given as goal

abbrev pub invariant-loop-mode : goal.invariant-loop-mode
invariant-loop-mode l = Shifting l.fn.self l.fn.from l.fn.to l.left l.counts

abbrev pub decreases-loop-mode : goal.decreases-loop-mode
decreases-loop-mode l = mask_of l.left
