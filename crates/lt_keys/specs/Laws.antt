-- What is so of the sets of keys.
use Rattle.std.specs.Prelude.{◌≡◌, ◌<◌, ◌≤◌, ◌⊎◌, ◌+◌, ◌*◌, ℕ, List, [], ◌∷◌, Option, Some, None, codes}
use Rattle.lt_keys.specs.Keys.{key_set, key_name}
use Rattle.lt_spec.specs.declared.limits.TheConstants.{MAX_SETS_OF_SERVICE}

-- so it is with each number of sets before them, of families, and of members of each
abbrev pub AtEach : (ℕ → ℕ → ℕ → Type 0) → Type 0
AtEach Holds = (first families members : ℕ) → Holds first families members

pub record KeySetsAre : Type 0 where
  -- the set is one of those of keys, and of a service
  pub within : AtEach (λ first families members. (parent key : List ℕ) (set : ℕ)
      → key_set first families members parent key ≡ Some set
      → (first ≤ set) × (set < first + members * families) × (set < MAX_SETS_OF_SERVICE))
  -- without a parent it is the first set of a family
  pub root : AtEach (λ first families members. (key : List ℕ) (set : ℕ)
      → key_set first families members [] key ≡ Some set
      → (family : ℕ) × (family < families) × (set ≡ first + family * members))
  -- with one it is another set of the family whose first one is the parent's
  pub member : AtEach (λ first families members. (byte : ℕ) (bytes key : List ℕ) (root set : ℕ)
      → key_set first families members [] (byte ∷ bytes) ≡ Some root
      → key_set first families members (byte ∷ bytes) key ≡ Some set → (root < set) × (set < root + members))
  -- the parent of a key that has a set has one
  pub parent : AtEach (λ first families members. (byte : ℕ) (bytes key : List ℕ) (set : ℕ)
      → key_set first families members (byte ∷ bytes) key ≡ Some set
      → (root : ℕ) × (key_set first families members [] (byte ∷ bytes) ≡ Some root))
  -- where no key has a set
  pub none : AtEach (λ first families members. (key : List ℕ) → key_set first families members [] key ≡ None
      → (families ≡ 0) ⊎ ((members ≡ 0) ⊎ (MAX_SETS_OF_SERVICE < first + members * families)))
  pub no_member : AtEach (λ first families members. (byte : ℕ) (bytes key : List ℕ)
      → key_set first families members (byte ∷ bytes) key ≡ None
      → (families ≡ 0) ⊎ ((members ≤ 1) ⊎ (MAX_SETS_OF_SERVICE < first + members * families)))
  -- names
  pub name : key_name 65535 ≡ codes "key.65535"
  pub first_name : key_name 0 ≡ codes "key.00000"
