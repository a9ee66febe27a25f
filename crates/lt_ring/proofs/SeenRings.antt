-- The ring that is found in a graph of marks is one of the graph that they tell of.
use Rattle.std.proofs.Common.{◌≡◌, ◌∙◌, ℕ, ◌<◌, List, [], ◌∷◌, Option, Some, None, IfSome, refl, sym, subst}
use Rattle.lt_lists.proofs.Members.{contains_first, contains_later}
use Rattle.lt_spec.specs.Rings.{Graph, AreBelow, first_or, IsPath, IsRing}
use Rattle.lt_waits.specs.Serves.{GraphData, graph_of, Tells}
use Rattle.lt_waits.specs.Shortest.{HasRing, IsRingOf, IsShortest}

-- graphs that agree on each two of the n clients have the same rings
module _ (n : ℕ) (a b : Graph) (same : (c d : ℕ) → c < n → d < n → a c d ≡ b c d) where
  first_under : (goal : ℕ) (xs : List ℕ) → goal < n → AreBelow n xs → first_or goal xs < n
  first_under goal [] under below = under
  first_under goal (x ∷ rest) under below = below x (contains_first x x rest refl)

  path_stays : (path : List ℕ) (goal : ℕ) → AreBelow n path → goal < n → IsPath a path goal → IsPath b path goal
  path_stays [] goal below under goes = tt
  path_stays (c ∷ rest) goal below under goes =
      let later : AreBelow n rest = λ d there. below d (contains_later c d rest there) in
      (sym (same c (first_or goal rest) (below c (contains_first c c rest refl)) (first_under goal rest under later)) ∙ goes.0, path_stays rest goal later under goes.1)

  pub ring_stays : (ring : List ℕ) → AreBelow n ring → IsRing a ring → IsRing b ring
  ring_stays [] below closed = absurd closed
  ring_stays (c ∷ rest) below closed = path_stays (c ∷ rest) c below (below c (contains_first c c rest refl)) closed

module _ (n : ℕ) (g : GraphData) (graph : Graph) (many : g.clients ≡ n) (told : Tells g graph) where
  agree : (c d : ℕ) → c < n → d < n → graph_of g c d ≡ graph c d
  agree c d h k = told c d (subst (λ (m : ℕ). c < m) (sym many) h) (subst (λ (m : ℕ). d < m) (sym many) k)

  there : (ring : List ℕ) → AreBelow n ring → IsRing (graph_of g) ring → IsRing graph ring
  there = ring_stays n (graph_of g) graph agree

  back : (ring : List ℕ) → AreBelow n ring → IsRing graph ring → IsRing (graph_of g) ring
  back = ring_stays n graph (graph_of g) (λ c d h k. sym (agree c d h k))

  pub has_seen : HasRing g.clients (graph_of g) → HasRing n graph
  has_seen has =
      let below = subst (λ (m : ℕ). AreBelow m has.0) many has.1 in
      (has.0, below, there has.0 below has.2)

  pub seen_has : HasRing n graph → HasRing g.clients (graph_of g)
  seen_has has = (has.0, subst (λ (m : ℕ). AreBelow m has.0) (sym many) has.1, back has.0 has.1 has.2)

  pub ring_seen : {R : Type 0} (items : R → List ℕ) (found : Option R) → IfSome found (λ ring. IsRingOf g.clients (graph_of g) (items ring))
      → IfSome found (λ ring. IsRingOf n graph (items ring))
  ring_seen items None is = tt
  ring_seen items (Some ring) is =
      let below = subst (λ (m : ℕ). AreBelow m (items ring)) many is.below in
      record { below = below; ring = there (items ring) below is.ring; distinct = is.distinct }

  pub shortest_seen : {R : Type 0} (items : R → List ℕ) (found : Option R) → IfSome found (λ ring. IsShortest g.clients (graph_of g) (items ring))
      → IfSome found (λ ring. IsShortest n graph (items ring))
  shortest_seen items None is = tt
  shortest_seen items (Some ring) is = λ other below closed. is other (subst (λ (m : ℕ). AreBelow m other) (sym many) below) (back other below closed)
