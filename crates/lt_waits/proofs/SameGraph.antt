-- Graphs that agree on each two of n clients have the same rings, and the same clients wait behind some clients.
use Rattle.std.proofs.Common.{◌≡◌, ◌∙◌, ℕ, zero, suc, ◌<◌, List, [], ◌∷◌, ◌++◌, refl, sym, ap, ap₂, not}
use Rattle.std.specs.List.{list_any}
use Rattle.lt_lists.proofs.Members.{contains_first, contains_later}
use Rattle.lt_spec.specs.Rings.{Graph, AreBelow, first_or, IsPath, IsRing, has_come, numbers_below, waits_for_some}
use Rattle.lt_waits.specs.Behind.{or_else, nearest, edge_to, edges_to, behind_from, behind, all_but, idle}
use Rattle.lt_waits.specs.Shortest.{HasRing, IsRingOf, IsShortest, IsRingNamed, waiting_for, not_waiting_for}
use Rattle.lt_waits.proofs.Walks.{AreClients, any_same, filter_agree, flat_map_same, all_by, all_filter, all_clients, rows, next_same}

-- the graphs agree on each two of n clients
abbrev pub Agree : ℕ → Graph → Graph → Type 0
Agree n a b = (c d : ℕ) → c < n → d < n → a c d ≡ b c d

pub agree_back : (n : ℕ) (a b : Graph) → Agree n a b → Agree n b a
agree_back n a b same c d h k = sym (same c d h k)

pub are_clients : (n : ℕ) (xs : List ℕ) → AreBelow n xs → AreClients n xs
are_clients n [] below = tt
are_clients n (x ∷ rest) below = (below x (contains_first x x rest refl), are_clients n rest (λ c there. below c (contains_later x c rest there)))

pub first_below : (n goal : ℕ) (xs : List ℕ) → goal < n → AreBelow n xs → first_or goal xs < n
first_below n goal [] under below = under
first_below n goal (x ∷ rest) under below = below x (contains_first x x rest refl)

path_same : (n : ℕ) (a b : Graph) → Agree n a b → (path : List ℕ) (goal : ℕ) → AreBelow n path → goal < n → IsPath a path goal → IsPath b path goal
path_same n a b same [] goal below under goes = tt
path_same n a b same (c ∷ rest) goal below under goes =
    let later : AreBelow n rest = λ d there. below d (contains_later c d rest there) in
    (sym (same c (first_or goal rest) (below c (contains_first c c rest refl)) (first_below n goal rest under later)) ∙ goes.0, path_same n a b same rest goal later under goes.1)

pub ring_same : (n : ℕ) (a b : Graph) → Agree n a b → (ring : List ℕ) → AreBelow n ring → IsRing a ring → IsRing b ring
ring_same n a b same [] below closed = absurd closed
ring_same n a b same (c ∷ rest) below closed = path_same n a b same (c ∷ rest) c below (below c (contains_first c c rest refl)) closed

pub has_ring_same : (n : ℕ) (a b : Graph) → Agree n a b → HasRing n a → HasRing n b
has_ring_same n a b same (ring, below, closed) = (ring, below, ring_same n a b same ring below closed)

pub ring_of_same : (n : ℕ) (a b : Graph) → Agree n a b → (ring : List ℕ) → IsRingOf n a ring → IsRingOf n b ring
ring_of_same n a b same ring is = record { below = is.below; ring = ring_same n a b same ring is.below is.ring; distinct = is.distinct }

pub shortest_same : (n : ℕ) (a b : Graph) → Agree n a b → (ring : List ℕ) → IsShortest n a ring → IsShortest n b ring
shortest_same n a b same ring short = λ other below closed. short other below (ring_same n b a (agree_back n a b same) other below closed)

pub named_same : (n : ℕ) (la lb ga gb : Graph) → Agree n la lb → Agree n ga gb → (ring : List ℕ) → IsRingNamed n la ga ring → IsRingNamed n lb gb ring
named_same n la lb ga gb locks graph ring is = record {
  ring_is = ring_of_same n ga gb graph ring is.ring_is;
  by_locks = λ has.
      let named = is.by_locks (has_ring_same n lb la (agree_back n la lb locks) has) in
      (ring_same n la lb locks ring is.ring_is.below named.0, shortest_same n la lb locks ring named.1);
  by_any = λ none. shortest_same n ga gb graph ring (is.by_any (λ has. none (has_ring_same n la lb locks has)));
}

module _ (n : ℕ) (la lb ga gb : Graph) (locks : Agree n la lb) (graph : Agree n ga gb) where
  nearest_same : (others : List ℕ) (c : ℕ) → AreClients n others → c < n → nearest la ga others c ≡ nearest lb gb others c
  nearest_same others c all h = ap₂ or_else (next_same n la lb locks others c all h) (next_same n ga gb graph others c all h)

  edges_same : (others clients : List ℕ) → AreClients n others → AreClients n clients → edges_to la ga others clients ≡ edges_to lb gb others clients
  edges_same others clients all those =
      flat_map_same (λ c. edge_to c (nearest la ga others c)) (λ c. edge_to c (nearest lb gb others c)) clients
      (all_by (λ c. c < n) (λ c. edge_to c (nearest la ga others c) ≡ edge_to c (nearest lb gb others c)) (λ c h. ap (edge_to c) (nearest_same others c all h)) clients those)

  any_of : (layer : List ℕ) (c : ℕ) → AreClients n layer → c < n → list_any (ga c) layer ≡ list_any (gb c) layer
  any_of layer c all h = any_same (ga c) (gb c) layer (rows n ga gb graph c h layer all)

  waiting_same : (layer left : List ℕ) → AreClients n layer → AreClients n left → waiting_for ga layer left ≡ waiting_for gb layer left
  waiting_same layer left all those =
      filter_agree (λ c. list_any (ga c) layer) (λ c. list_any (gb c) layer) left
      (all_by (λ c. c < n) (λ c. list_any (ga c) layer ≡ list_any (gb c) layer) (λ c h. any_of layer c all h) left those)

  not_waiting_same : (layer left : List ℕ) → AreClients n layer → AreClients n left → not_waiting_for ga layer left ≡ not_waiting_for gb layer left
  not_waiting_same layer left all those =
      filter_agree (λ c. not (list_any (ga c) layer)) (λ c. not (list_any (gb c) layer)) left
      (all_by (λ c. c < n) (λ c. not (list_any (ga c) layer) ≡ not (list_any (gb c) layer)) (λ c h. ap not (any_of layer c all h)) left those)

  from_same : (k : ℕ) (layer left : List ℕ) → AreClients n layer → AreClients n left → behind_from k la ga layer left ≡ behind_from k lb gb layer left
  from_same zero layer left all those = refl
  from_same (suc k) layer left all those =
      ap₂ ◌++◌ (edges_same layer left all those)
      (from_same k (waiting_for ga layer left) (not_waiting_for ga layer left) (all_filter (λ c. c < n) (λ c. list_any (ga c) layer) left those) (all_filter (λ c. c < n) (λ c. not (list_any (ga c) layer)) left those)
      ∙ ap₂ (behind_from k lb gb) (waiting_same layer left all those) (not_waiting_same layer left all those))

  pub behind_same : (clients : List ℕ) → AreClients n clients → behind n la ga clients ≡ behind n lb gb clients
  behind_same clients all =
      from_same n clients (all_but n clients) all (all_filter (λ c. c < n) (λ c. not (has_come clients c)) (numbers_below n) (all_clients n ga gb graph))

  pub idle_clients : AreClients n (idle n ga)
  idle_clients = all_filter (λ c. c < n) (λ c. not (waits_for_some n ga c)) (numbers_below n) (all_clients n ga gb graph)

  pub idle_same : idle n ga ≡ idle n gb
  idle_same =
      filter_agree (λ c. not (waits_for_some n ga c)) (λ c. not (waits_for_some n gb c)) (numbers_below n)
      (all_by (λ c. c < n) (λ c. not (waits_for_some n ga c) ≡ not (waits_for_some n gb c)) (λ c h. ap not (any_of (numbers_below n) c (all_clients n ga gb graph) h))
      (numbers_below n) (all_clients n ga gb graph))
