use Rattle.std.proofs.Common.{◌≡◌, drop, map, filter_map}
use Rattle.lt_modes.specs.Fits.{has_client, ask_if}
use Rattle.lt_desk.specs.LetterSeen.{parked_seen}
use Rattle.lt_core.proofs.fits.parks_later.Given as goal

abbrev pub invariant-loop-k : goal.invariant-loop-k
invariant-loop-k l =
    has_client l.client (filter_map ask_if (map parked_seen (drop l.k l.parked.items)))
    ≡ has_client l.client (filter_map ask_if (map parked_seen (drop l.from l.parked.items)))
