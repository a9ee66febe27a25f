-- A client that waits with another one for which it waits, or behind whose void ask.
use Rattle.std.specs.Prelude.{ℕ, ◌<◌, List, [], ◌∷◌, if◌then◌else◌, map, filter, flat_map}
use Rattle.lt_spec.specs.Rings.{Graph, first_or, numbers_below}
use Rattle.lt_waits.specs.declared.edge.Edge.{Edge}

abbrev pub edge : ℕ → ℕ → Edge
edge client other = record { client = client; other = other }

-- both are of so many clients
abbrev pub IsEdgeOf : ℕ → Edge → Type 0
IsEdgeOf n e = (e.client < n) × (e.other < n)

-- each of these clients with the next one, and the last one with the goal
abbrev pub edges_along : List ℕ → ℕ → List Edge
edges_along [] goal = []
edges_along (c ∷ rest) goal = edge c (first_or goal rest) ∷ edges_along rest goal

-- each of these clients with the next one, and the last one with the first
abbrev pub ring_edges : List ℕ → List Edge
ring_edges ring = edges_along ring (first_or 0 ring)

-- the client with the other one, if they are a pair of the graph
abbrev pub pair_if : Graph → ℕ → ℕ → List Edge
pair_if graph client other = if graph client other then edge client other ∷ [] else []

-- the client with each of the first k clients of which the graph says so
abbrev pub pairs_with : Graph → ℕ → ℕ → List Edge
pairs_with graph client k = map (edge client) (filter (graph client) (numbers_below k))

-- each of n clients with each of them of which the graph says so, by the first and then by the second
abbrev pub pairs_of : ℕ → Graph → List Edge
pairs_of n graph = flat_map (λ c. pairs_with graph c n) (numbers_below n)
