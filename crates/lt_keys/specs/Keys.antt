-- At which set a key is, and the names of these sets.
use Rattle.std.specs.Prelude.{ℕ, ◌+◌, ◌-◌, ◌*◌, ◌/◌, ◌%◌, ◌&&◌, ◌==◌, Bool, length, List, [], ◌∷◌, ◌++◌, Option, Some, None, if◌then◌else◌, nat_lt, nat_le, take, codes}
use Rattle.std.specs.Int.{w64, from_be_bytes}
use Rattle.sha2.specs.Sha256.{sha256}
use Rattle.lt_spec.specs.declared.limits.TheConstants.{MAX_SETS_OF_SERVICE}

-- the first 8 bytes of the key's digest, as a number with the greatest byte first
abbrev pub key_number : List ℕ → ℕ
key_number key = from_be_bytes w64 (take 8 (sha256 key))

-- the key that the family is chosen by: that of the parent, which is empty if there is none, or else the key itself
abbrev pub family_key : List ℕ → List ℕ → List ℕ
family_key parent key = if length parent == 0 then key else parent

-- the place in the family: its first one, the root's, where there is no parent, and else a later one
abbrev pub place_in_family : ℕ → List ℕ → List ℕ → ℕ
place_in_family members parent key = if length parent == 0 then 0 else 1 + key_number key % (members - 1)

-- how many members a family has beside those that such a key may have
abbrev pub least_members : List ℕ → ℕ
least_members parent = if length parent == 0 then 0 else 1

-- there is a family, it has a member for such a key, and a service may have so many sets
abbrev pub has_key_sets : ℕ → ℕ → ℕ → List ℕ → Bool
has_key_sets first families members parent =
    nat_lt 0 families && nat_lt (least_members parent) members
    && nat_le (first + members * families) MAX_SETS_OF_SERVICE

-- the set of a key with this parent, where the sets of the families stand behind so many other ones
abbrev pub key_set : ℕ → ℕ → ℕ → List ℕ → List ℕ → Option ℕ
key_set first families members parent key =
    if has_key_sets first families members parent
    then Some (first
    + (key_number (family_key parent key) % families * members + place_in_family members parent key))
    else None

-- a number's digit of this unit
abbrev pub digit : ℕ → ℕ → ℕ
digit number unit = 48 + number / unit % 10

-- the name of the set with this number among those of keys
abbrev pub key_name : ℕ → List ℕ
key_name number =
    codes "key."
    ++ digit number 10000 ∷ digit number 1000 ∷ digit number 100 ∷ digit number 10 ∷ digit number 1 ∷ []
