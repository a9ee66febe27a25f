use Rattle.std.proofs.Common.{ℕ, Vec, Global}
use Rattle.lt_ring.specs.Seen.{waits_seen}
use Rattle.lt_ring.proofs.SeenRings.{has_seen, seen_has, ring_seen, shortest_seen}
use Rattle.lt_ring.proofs.nodes.Nodes.ring.Goals as goal

pub returns-clause-found : goal.returns-clause-found
returns-clause-found c =
    let g = c.in_ok-graph.graph in
    let graph = waits_seen c.args.self.now in (
      λ e. has_seen c.args.clients g graph c.in_ok-graph.ensures.clients c.in_ok-graph.ensures.told (c.in_ok-found.ensures.found.0 e),
      λ h. c.in_ok-found.ensures.found.1 (seen_has c.args.clients g graph c.in_ok-graph.ensures.clients c.in_ok-graph.ensures.told h),
    )

pub returns-clause-ring : goal.returns-clause-ring
returns-clause-ring c =
    ring_seen c.args.clients c.in_ok-graph.graph (waits_seen c.args.self.now) c.in_ok-graph.ensures.clients c.in_ok-graph.ensures.told
    {R = Vec ℕ Global} (λ ring. ring.items) c.in_ok-found.found c.in_ok-found.ensures.ring

pub returns-clause-shortest : goal.returns-clause-shortest
returns-clause-shortest c =
    shortest_seen c.args.clients c.in_ok-graph.graph (waits_seen c.args.self.now) c.in_ok-graph.ensures.clients c.in_ok-graph.ensures.told
    {R = Vec ℕ Global} (λ ring. ring.items) c.in_ok-found.found c.in_ok-found.ensures.shortest
