-- What those who wait behind some clients are, as statements of any graphs.
use Rattle.std.specs.Prelude.{ℕ, List, ◌∷◌, Contains}
use Rattle.lt_spec.specs.Rings.{Graph, AreBelow, IsPath}
use Rattle.lt_waits.specs.Edges.{edge}
use Rattle.lt_waits.specs.Behind.{behind}

-- the client waits for one of these, or for one that is led to them
abbrev pub IsLedTo : ℕ → Graph → List ℕ → ℕ → Type 0
IsLedTo n graph clients c =
    (rest : List ℕ) × (last : ℕ) × AreBelow n (c ∷ rest) × IsPath graph (c ∷ rest) last × Contains clients last

-- each client of the n that is none of these and is led to them waits behind them
abbrev pub BehindAreAll : Type 0
BehindAreAll = (n : ℕ) (locks graph : Graph) (clients : List ℕ) → AreBelow n clients
    → (c : ℕ) → (Contains clients c → ⊥) → IsLedTo n graph clients c
    → (other : ℕ) × Contains (behind n locks graph clients) (edge c other)
