use Rattle.std.proofs.Common.{◌≡◌, ◌<◌, ◌++◌, ℕ, All, drop}
use Rattle.lt_spec.specs.Rings.{first_or}
use Rattle.lt_waits.specs.Edges.{IsEdgeOf, edges_along, ring_edges}
use Rattle.lt_waits.proofs.edge.ring_edges.Given as goal

-- with the edges of those that are left these are all
abbrev pub invariant-loop-place : goal.invariant-loop-place
invariant-loop-place l = record {
  edges : l.edges.items ++ edges_along (drop l.place l.ring) (first_or 0 l.ring) ≡ ring_edges l.ring;
  within : (n : ℕ) → All (λ c. c < n) l.ring → All (IsEdgeOf n) l.edges.items;
}
