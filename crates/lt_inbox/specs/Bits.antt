-- Sets of nodes as the bits of four words, one for each number below 256.
use Rattle.std.specs.Prelude.{◌≡◌, ◌<◌, ◌≤◌, ◌/◌, ◌%◌, ◌^◌, ◌==◌, ◌≢◌, ℕ, Bool, true, false, List, length, map, slice_index_or}
use Rattle.std.specs.Int.{bit_at}
use Rattle.std.specs.List.{range_with_len}
use Rattle.lt_inbox.specs.Mail.{has_from, sender_count}

-- whether the number has its bit
abbrev pub has_bit : List ℕ → ℕ → Bool
has_bit words k = bit_at (slice_index_or words (k / 64) 0) (k % 64) == 1

-- the lowest number from this one on that has its bit
pub record IsFirstBit (words : List ℕ) (from k : ℕ) : Type 0 where
  pub after : from ≤ k
  pub few : k < 256
  pub has : has_bit words k ≡ true
  pub none : (i : ℕ) → from ≤ i → i < k → has_bit words i ≡ false

abbrev pub NoBitFrom : List ℕ → ℕ → Type 0
NoBitFrom words from = (i : ℕ) → from ≤ i → has_bit words i ≡ false

-- only this number's bit may be another one
abbrev pub OtherBitsStand : ℕ → List ℕ → List ℕ → Type 0
OtherBitsStand k old new = (i : ℕ) → i ≢ k → has_bit new i ≡ has_bit old i

-- which of so many numbers have their bits
abbrev pub marks_of : ℕ → List ℕ → List Bool
marks_of count words = map (has_bit words) (range_with_len 0 count)

-- no bit is set but for some of the first numbers, and so many of them are
pub record AreBits (words : List ℕ) (count len : ℕ) : Type 0 where
  pub few : count < 2 ^ 8
  pub past : NoBitFrom words count
  pub counted : len ≡ sender_count (marks_of count words)

-- the lowest one from this one on that is marked
pub record IsFirstFrom (marks : List Bool) (from k : ℕ) : Type 0 where
  pub after : from ≤ k
  pub within : k < length marks
  pub marked : has_from marks k ≡ true
  pub none : (i : ℕ) → from ≤ i → i < k → has_from marks i ≡ false

abbrev pub NoneFrom : List Bool → ℕ → Type 0
NoneFrom marks from = (i : ℕ) → from ≤ i → has_from marks i ≡ false
