use Rattle.std.proofs.Common.{◌≡◌, drop, find}
use Rattle.lt_ring.specs.Seen.{is_node_of, own_node}
use Rattle.lt_ring.proofs.nodes.Nodes.own.Given as goal

abbrev pub invariant-loop-place : goal.invariant-loop-place
invariant-loop-place l = find (is_node_of l.client) (drop l.place l.self) ≡ own_node l.self l.client
