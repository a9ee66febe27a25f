use Rattle.std.proofs.Common.{ℕ, List, All, length, subst, sym}
use Rattle.lt_waits.specs.declared.edge.Edge.{Edge}
use Rattle.lt_waits.specs.Edges.{IsEdgeOf}
use Rattle.lt_waits.proofs.saying.ring_text.Goals as goal

pub push_edges-requires : goal.push_edges-requires
push_edges-requires c =
    subst (λ (l : List Edge). All (IsEdgeOf (length c.args.tallied.now.script.clients)) l) (sym c.deref.ensures.value)
    (subst (λ (n : ℕ). All (IsEdgeOf n) c.in_ok-edges.edges.items) c.requires.clients (c.in_ok-edges.ensures.within c.args.graph.now.clients c.requires.ring))
