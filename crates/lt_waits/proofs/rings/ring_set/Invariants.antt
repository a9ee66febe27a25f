use Rattle.std.proofs.Common.{◌≡◌, ◌<◌, All}
use Rattle.lt_spec.specs.Rings.{numbers_below, remaining}
use Rattle.lt_waits.specs.Serves.{graph_of}
use Rattle.lt_waits.proofs.rings.ring_set.Given as goal

-- these are left after so many rounds
abbrev pub invariant-loop-round : goal.invariant-loop-round
invariant-loop-round l = record {
  left : l.left.items ≡ remaining (graph_of l.graph) (numbers_below l.graph.clients) l._round;
  within : All (λ c. c < l.graph.clients) l.left.items;
}
