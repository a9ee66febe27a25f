use Rattle.std.proofs.Common.{◌≡◌, drop}
use Rattle.std.specs.List.{list_all}
use Rattle.lt_ring.specs.Seen.{is_alike}
use Rattle.lt_ring.proofs.nodes.Nodes.are_like.Given as goal

abbrev pub invariant-loop-place : goal.invariant-loop-place
invariant-loop-place l = list_all (is_alike l.first) (drop l.place l.self) ≡ list_all (is_alike l.first) l.self
