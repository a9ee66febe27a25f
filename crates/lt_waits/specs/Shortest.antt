-- Rings of as few clients as there can be, and clients layer by layer.
use Rattle.std.specs.Prelude.{◌≡◌, ◌<◌, ◌≤◌, ◌==◌, not, ℕ, List, length, filter, Contains, IsTrue}
use Rattle.std.specs.List.{list_any, IsDistinct}
use Rattle.lt_spec.specs.Rings.{Graph, AreBelow, first_or, IsPath, IsRing}

-- some of the n clients wait in a ring
abbrev pub HasRing : ℕ → Graph → Type 0
HasRing n graph = (ring : List ℕ) × AreBelow n ring × IsRing graph ring

-- these are clients of the n that wait in a ring, none of them twice
pub record IsRingOf (n : ℕ) (graph : Graph) (clients : List ℕ) : Type 0 where
  pub below : AreBelow n clients
  pub ring : IsRing graph clients
  pub distinct : IsDistinct (λ a b. a == b) clients

-- no ring of the n clients has fewer
abbrev pub IsShortest : ℕ → Graph → List ℕ → Type 0
IsShortest n graph clients = (other : List ℕ) → AreBelow n other → IsRing graph other → length clients ≤ length other

-- a ring of the graph: if some clients wait in a ring by locks alone, one of these, and none of these is shorter; else
-- no ring is shorter
pub record IsRingNamed (n : ℕ) (locks graph : Graph) (ring : List ℕ) : Type 0 where
  pub ring_is : IsRingOf n graph ring
  pub by_locks : HasRing n locks → IsRing locks ring × IsShortest n locks ring
  pub by_any : (HasRing n locks → ⊥) → IsShortest n graph ring

-- those of these clients that wait for one of the others
abbrev pub waiting_for : Graph → List ℕ → List ℕ → List ℕ
waiting_for graph others clients = filter (λ c. list_any (graph c) others) clients

-- those of these clients that wait for none of the others
abbrev pub not_waiting_for : Graph → List ℕ → List ℕ → List ℕ
not_waiting_for graph others clients = filter (λ c. not (list_any (graph c) others)) clients

-- one of those left that waits for a client that isn't left waits for one of the layer
abbrev pub IsLayer : ℕ → Graph → List ℕ → List ℕ → Type 0
IsLayer n graph layer left = (c d : ℕ) → Contains left c → d < n → (Contains left d → ⊥) → IsTrue (graph c d) → Contains layer d

-- a path of the n clients from the start to the last one, which isn't left
pub record LeadsOut (n : ℕ) (graph : Graph) (start : ℕ) (left path : List ℕ) (last : ℕ) : Type 0 where
  pub goes : IsPath graph path last
  pub first : first_or last path ≡ start
  pub below : AreBelow n path
  pub last_below : last < n
  pub out : Contains left last → ⊥
