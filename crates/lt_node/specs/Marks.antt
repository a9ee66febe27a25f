-- Marks of clients, by their numbers.
use Rattle.std.specs.Prelude.{◌≡◌, ◌<◌, ◌||◌, ℕ, List, Bool, false, length, slice_index_or}

-- those that pass the test are marked besides
pub record AreAdded (test : ℕ → Bool) (old new : List Bool) : Type 0 where
  pub count : length new ≡ length old
  pub marks : (k : ℕ) → k < length old → slice_index_or new k false ≡ (slice_index_or old k false || test k)
