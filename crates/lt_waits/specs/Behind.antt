-- Those who wait behind some clients, round by round.
use Rattle.std.specs.Prelude.{ℕ, zero, suc, List, [], ◌∷◌, ◌++◌, not, Option, None, Some, filter, flat_map}
use Rattle.lt_spec.specs.Rings.{Graph, has_come, next_among, numbers_below, waits_for_some}
use Rattle.lt_waits.specs.declared.edge.Edge.{Edge}
use Rattle.lt_waits.specs.Edges.{edge}
use Rattle.lt_waits.specs.Shortest.{waiting_for, not_waiting_for}

-- the first one, or else the second
abbrev pub or_else : Option ℕ → Option ℕ → Option ℕ
or_else None second = second
or_else (Some first) second = Some first

-- the first of the others for which the client waits by a lock; where there is none, the first for which it waits
abbrev pub nearest : Graph → Graph → List ℕ → ℕ → Option ℕ
nearest locks graph others client = or_else (next_among locks others client) (next_among graph others client)

abbrev pub edge_to : ℕ → Option ℕ → List Edge
edge_to client None = []
edge_to client (Some other) = edge client other ∷ []

-- each of these clients that waits for one of the others, with the nearest of them
abbrev pub edges_to : Graph → Graph → List ℕ → List ℕ → List Edge
edges_to locks graph others clients = flat_map (λ c. edge_to c (nearest locks graph others c)) clients

-- so many rounds: those of the clients left that wait for one of the layer, then those that wait for one of these, and
-- so on
abbrev pub behind_from : ℕ → Graph → Graph → List ℕ → List ℕ → List Edge
behind_from zero locks graph layer left = []
behind_from (suc k) locks graph layer left =
    edges_to locks graph layer left
    ++ behind_from k locks graph (waiting_for graph layer left) (not_waiting_for graph layer left)

-- those of the n clients that aren't these
abbrev pub all_but : ℕ → List ℕ → List ℕ
all_but n clients = filter (λ c. not (has_come clients c)) (numbers_below n)

-- those of the n clients that wait for one of these, those that wait for one of them, and so on
abbrev pub behind : ℕ → Graph → Graph → List ℕ → List Edge
behind n locks graph clients = behind_from n locks graph clients (all_but n clients)

-- those of the n clients that wait for nobody
abbrev pub idle : ℕ → Graph → List ℕ
idle n graph = filter (λ c. not (waits_for_some n graph c)) (numbers_below n)
