use Rattle.std.proofs.Common.{◌≡◌, drop}
use Rattle.std.specs.List.{list_any}
use Rattle.lt_ring.specs.Seen.{is_behind_at, is_behind_seen}
use Rattle.lt_ring.proofs.nodes.Nodes.is_behind.Given as goal

abbrev pub invariant-loop-place : goal.invariant-loop-place
invariant-loop-place l =
    list_any (is_behind_at l.set l.client l.other) (drop l.place l.self) ≡ is_behind_seen l.self l.set l.client l.other
