use Rattle.lt_law_waiting.proofs.RingWalks.{ring_set_waits, ring_set_is_greatest, walk_finds_ring, no_ring, walks_end}
use Rattle.lt_law_waiting.proofs.laws.law_rings.Goals as goal

pub returns : goal.returns
returns c = record {
  waits = ring_set_waits;
  greatest = ring_set_is_greatest;
  found = walk_finds_ring;
  none = no_ring;
  ends = walks_end;
}
