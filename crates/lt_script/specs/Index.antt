-- Items that are chained by the spots of their names.
use Rattle.std.specs.Prelude.{◌≡◌, ℕ, ◌+◌, ◌-◌, ◌*◌, ◌%◌, ◌^◌, ◌<◌, ◌≤◌, List, [], Option, Some, None, length, fold, position, slice_get, slice_index, bytes_eq, bit_and}

-- the hash of what comes before a byte and of the byte
abbrev pub hash_with : ℕ → ℕ → ℕ
hash_with hash byte = (hash * 21 % 2 ^ 32 + byte) % 2 ^ 32

unfoldable pub hash_of : List ℕ → ℕ
hash_of name = fold hash_with 0 name

-- which of so many spots the name has
abbrev pub spot_of : ℕ → List ℕ → ℕ
spot_of spots name = bit_and (hash_of name) (spots - 1)

abbrev pub name_by : {T : Type 0} → (T → List ℕ) → Option T → List ℕ
name_by name_of None = []
name_by name_of (Some x) = name_of x

-- which of so many spots the item at this place has
abbrev pub spot_at : {T : Type 0} → (T → List ℕ) → List T → ℕ → ℕ → ℕ
spot_at name_of items spots place = spot_of spots (name_by name_of (slice_get items place))

-- the link is one more than the last place before this one that has this spot; it is 0 if none has
pub record IsLink (spot_at : ℕ → ℕ) (spot place link : ℕ) : Type 0 where
  pub within : link ≤ place
  pub there : (k : ℕ) → link ≡ k + 1 → spot_at k ≡ spot
  pub behind : (k : ℕ) → k < place → spot_at k ≡ spot → k < link

-- of the first so many places each spot is linked to its last one, and each place to the one before it
pub record AreLinked (spot_at : ℕ → ℕ) (count : ℕ) (lasts befores : List ℕ) : Type 0 where
  pub of_spots : (spot : ℕ) → spot < length lasts → IsLink spot_at spot count (slice_index lasts spot)
  pub of_places : (place : ℕ) → place < count → IsLink spot_at (spot_at place) place (slice_index befores place)

-- the items are chained by their spots, and their names are apart
pub record IsIndex {T : Type 0} (name_of : T → List ℕ) (items : List T) (lasts befores : List ℕ) : Type 0 where
  pub some : 0 < length lasts
  pub count : length befores ≡ length items
  pub few : length items ≤ 2 ^ 31
  pub linked : AreLinked (spot_at name_of items (length lasts)) (length items) lasts befores
  pub apart : (place : ℕ) (x : T) → slice_get items place ≡ Some x → position (λ y. bytes_eq (name_of y) (name_of x)) items ≡ Some place
