-- Sets of clients as the bits of words, 64 in each.
use Rattle.std.specs.Prelude.{◌≡◌, ◌≢◌, ◌+◌, ◌/◌, ◌%◌, ◌==◌, ℕ, Bool, List, slice_index_or}
use Rattle.std.specs.Int.{bit_at}

-- whether the number has its bit
abbrev pub row_has : List ℕ → ℕ → Bool
row_has words k = bit_at (slice_index_or words (k / 64) 0) (k % 64) == 1

-- how many words have a bit for each of n clients
abbrev pub words_for : ℕ → ℕ
words_for n = n / 64 + 1

-- only this number's bit may be another one
abbrev pub OtherWaitersStand : ℕ → List ℕ → List ℕ → Type 0
OtherWaitersStand k old new = (i : ℕ) → i ≢ k → row_has new i ≡ row_has old i
