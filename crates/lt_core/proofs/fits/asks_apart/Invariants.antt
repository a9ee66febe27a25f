use Rattle.std.proofs.Common.{◌≡◌, drop, map, filter_map}
use Rattle.lt_modes.specs.Fits.{are_apart, ask_if}
use Rattle.lt_desk.specs.LetterSeen.{parked_seen}
use Rattle.lt_core.proofs.fits.asks_apart.Given as goal

abbrev pub invariant-loop-k : goal.invariant-loop-k
invariant-loop-k l =
    are_apart (filter_map ask_if (map parked_seen (drop l.k l.parked.items))) ≡ are_apart (filter_map ask_if (map parked_seen l.parked.items))
