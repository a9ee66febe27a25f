use Rattle.std.proofs.Common.{rules, ◌≡◌, ◌++◌, ◌∷◌, [], All, get_or, refl, subst, sym, arith}
use Rattle.std.proofs.lemmas.List.Elements.{All-push}
use Rattle.lt_spec.specs.Rings.{first_or}
use Rattle.lt_waits.specs.Edges.{IsEdgeOf, edge, ring_edges}
use Rattle.lt_waits.proofs.RingEdges.{edge_more}
use Rattle.lt_waits.proofs.edge.ring_edges.Goals as goal

pub loop-place-preserved : goal.loop-place-preserved
loop-place-preserved c =
    let ring = c.args.ring.now in
    let place = c.loop-place.place in
    let added = edge (get_or ring place 0) c.next_in.result in
    let pushed : c.push.new.self.items ≡ c.loop-place.edges.items ++ added ∷ [] = search rules in
    record {
      edges = edge_more ring (first_or 0 ring) place (get_or ring place 0) c.next_in.result c.loop-place.edges.items c.push.new.self.items (ring_edges ring)
          (omega arith) refl c.next_in.ensures.next pushed c.loop-place.invariant.edges;
      within = λ n all. subst (All (IsEdgeOf n)) (sym pushed)
          (All-push (IsEdgeOf n) c.loop-place.edges.items added (c.loop-place.invariant.within n all) (all place 0 (omega arith), c.next_in.ensures.within n all));
    }
