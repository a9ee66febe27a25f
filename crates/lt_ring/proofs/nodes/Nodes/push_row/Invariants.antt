use Rattle.std.proofs.Common.{◌≡◌, ◌++◌, map}
use Rattle.lt_spec.specs.Rings.{numbers_below}
use Rattle.lt_ring.specs.Seen.{waits_seen}
use Rattle.lt_ring.proofs.nodes.Nodes.push_row.Given as goal

abbrev pub invariant-loop-other : goal.invariant-loop-other
invariant-loop-other l = l.pairs.items ≡ l.fn.pairs.items ++ map (waits_seen l.self l.client) (numbers_below l.other)
