-- Bytes that are put at the end of a vector.
use Rattle.std.specs.Prelude.{◌≡◌, ◌<◌, ◌≤◌, ◌+◌, ℕ, List, ◌++◌, length, take, Result, Ok, Err, Vec, vec_capacity}
use Rattle.std.specs.Global.{Global}

-- they stand there; or the vector had no room for them, and begins with what it had. Its room is no smaller
abbrev pub PutsBytes : {E : Type 0} → List ℕ → Vec ℕ Global → Vec ℕ Global → Result (Unit {0}) E → Type 0
PutsBytes bytes old new (Ok x) = (new.items ≡ old.items ++ bytes) × (vec_capacity old ≤ vec_capacity new)
PutsBytes bytes old new (Err e) =
    (take (length old.items) new.items ≡ old.items)
    × ((vec_capacity old ≤ vec_capacity new) × (vec_capacity old < length old.items + length bytes))
