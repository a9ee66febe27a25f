-- What follows where a key has a set, and where it has none.
use Rattle.std.proofs.Common.{◌≡◌, ◌<◌, ◌≤◌, ◌⊎◌, ◌+◌, ◌-◌, ◌*◌, ◌%◌, ◌==◌, ◌∙◌, ne_eqb, length, ℕ, List, [], ◌∷◌, Bool, true, false, Option, Some, None, if◌then◌else◌, inl, inr, refl, ap, arith, lt-ltb, le-leb, ltb-false, leb-false, nat_lt, nat_le, ◌&&◌}
use Rattle.std.proofs.lemmas.Bool.{and_from}
use Rattle.std.proofs.Math.Nat.{mod-lt}
use Rattle.lt_spec.specs.declared.limits.TheConstants.{MAX_SETS_OF_SERVICE}
use Rattle.lt_keys.specs.Keys.{key_number, family_key, place_in_family, least_members, has_key_sets, key_set}
use Rattle.lt_keys.specs.Laws.{KeySetsAre}
use Rattle.lt_keys.proofs.Inside.{some_family, some_member, few_sets, inside}

-- the number that is told if there are such sets
abbrev number_of : ℕ → ℕ → ℕ → List ℕ → List ℕ → ℕ
number_of first families members parent key =
    first + (key_number (family_key parent key) % families * members + place_in_family members parent key)

told : (b : Bool) (n set : ℕ) → (if b then Some n else None) ≡ Some set → (b ≡ true) × (set ≡ n)
told true n set e = (refl, cc)
told false n set e = absurd (cc)

untold : (b : Bool) (n : ℕ) → (if b then Some n else None) ≡ None → b ≡ false
untold true n e = absurd (cc)
untold false n e = refl

found : (first families members : ℕ) (parent key : List ℕ) (set : ℕ) → key_set first families members parent key ≡ Some set
    → (has_key_sets first families members parent ≡ true) × (set ≡ number_of first families members parent key)
found first families members parent key set e =
    told (has_key_sets first families members parent) (number_of first families members parent key) set e

some_bytes : (byte : ℕ) (bytes : List ℕ) → (length (byte ∷ bytes) == 0) ≡ false
some_bytes byte bytes = ne_eqb (length (byte ∷ bytes)) 0 (λ e. omega (arith, e))

least_one : (byte : ℕ) (bytes : List ℕ) → least_members (byte ∷ bytes) ≡ 1
least_one byte bytes = ap (λ (b : Bool). if b then 0 else 1) (some_bytes byte bytes)

place_later : (members byte : ℕ) (bytes key : List ℕ) → place_in_family members (byte ∷ bytes) key ≡ 1 + key_number key % (members - 1)
place_later members byte bytes key = ap (λ (b : Bool). if b then 0 else 1 + key_number key % (members - 1)) (some_bytes byte bytes)

family_of_parent : (byte : ℕ) (bytes key : List ℕ) → family_key (byte ∷ bytes) key ≡ byte ∷ bytes
family_of_parent byte bytes key = ap (λ (b : Bool). if b then key else byte ∷ bytes) (some_bytes byte bytes)

two_members : (members byte : ℕ) (bytes : List ℕ) → least_members (byte ∷ bytes) < members → 1 < members
two_members members byte bytes more = omega (arith, more, least_one byte bytes)

place_within : (members : ℕ) (parent key : List ℕ) → least_members parent < members → place_in_family members parent key < members
place_within members [] key more = more
place_within members (byte ∷ bytes) key more =
    let two = two_members members byte bytes more in
    let below = mod-lt (key_number key) {m = members - 1} (omega (arith, two)) in
    omega (arith, place_later members byte bytes key, below, two)

is_within : (first families members : ℕ) (parent key : List ℕ) (set : ℕ) → key_set first families members parent key ≡ Some set
    → (first ≤ set) × (set < first + members * families) × (set < MAX_SETS_OF_SERVICE)
is_within first families members parent key set e =
    let is = found first families members parent key set e in
    let below = mod-lt (key_number (family_key parent key)) {m = families} (some_family first families members parent is.0) in
    let place = place_within members parent key (some_member first families members parent is.0) in
    let inner = inside first families members parent is.0 (key_number (family_key parent key) % families) (place_in_family members parent key) below place in
    let few = few_sets first families members parent is.0 in
    (omega (arith, is.1), omega (arith, is.1, inner), omega (arith, is.1, inner, few))

is_root : (first families members : ℕ) (key : List ℕ) (set : ℕ) → key_set first families members [] key ≡ Some set
    → (family : ℕ) × (family < families) × (set ≡ first + family * members)
is_root first families members key set e =
    let is = found first families members [] key set e in
    (key_number key % families, mod-lt (key_number key) {m = families} (some_family first families members [] is.0), omega (arith, is.1))

is_member : (first families members byte : ℕ) (bytes key : List ℕ) (root set : ℕ)
    → key_set first families members [] (byte ∷ bytes) ≡ Some root → key_set first families members (byte ∷ bytes) key ≡ Some set
    → (root < set) × (set < root + members)
is_member first families members byte bytes key root set e f =
    let of_root = found first families members [] (byte ∷ bytes) root e in
    let root_is : root ≡ first + (key_number (byte ∷ bytes) % families * members + 0) = of_root.1 in
    let is = found first families members (byte ∷ bytes) key set f in
    let set_is : set ≡ first + (key_number (byte ∷ bytes) % families * members + (1 + key_number key % (members - 1))) =
    is.1
    ∙ ap (λ (parent : List ℕ). first + (key_number parent % families * members + place_in_family members (byte ∷ bytes) key)) (family_of_parent byte bytes key)
    ∙ ap (λ (place : ℕ). first + (key_number (byte ∷ bytes) % families * members + place)) (place_later members byte bytes key) in
    let more = two_members members byte bytes (some_member first families members (byte ∷ bytes) is.0) in
    let below = mod-lt (key_number key) {m = members - 1} (omega (arith, more)) in
    (omega (arith, root_is, set_is), omega (arith, root_is, set_is, below, more))

-- where a key with a parent has a set, the parent has one
has_parent : (first families members byte : ℕ) (bytes key : List ℕ) (set : ℕ) → key_set first families members (byte ∷ bytes) key ≡ Some set
    → (root : ℕ) × (key_set first families members [] (byte ∷ bytes) ≡ Some root)
has_parent first families members byte bytes key set e =
    let is = found first families members (byte ∷ bytes) key set e in
    let some = some_family first families members (byte ∷ bytes) is.0 in
    let more = two_members members byte bytes (some_member first families members (byte ∷ bytes) is.0) in
    let few = few_sets first families members (byte ∷ bytes) is.0 in
    let has : has_key_sets first families members [] ≡ true =
    and_from _ _ (and_from _ _ (lt-ltb 0 families some) (lt-ltb 0 members (omega (arith, more)))) (le-leb (first + members * families) MAX_SETS_OF_SERVICE few) in
    let n = number_of first families members [] (byte ∷ bytes) in
    (n, ap (λ (b : Bool). if b then Some n else None) has)

either_false : (x y : Bool) → x && y ≡ false → (x ≡ false) ⊎ (y ≡ false)
either_false true y e = inr e
either_false false y e = inl refl

-- why there are no such sets
missing : (first families members least : ℕ)
    → nat_lt 0 families && nat_lt least members && nat_le (first + members * families) MAX_SETS_OF_SERVICE ≡ false
    → (families ≡ 0) ⊎ ((members ≤ least) ⊎ (MAX_SETS_OF_SERVICE < first + members * families))
missing first families members least e =
    elim (either_false (nat_lt 0 families && nat_lt least members) (nat_le (first + members * families) MAX_SETS_OF_SERVICE) e) [
      | inl front ↦ elim (either_false (nat_lt 0 families) (nat_lt least members) front) [
        | inl none ↦ inl (omega (arith, ltb-false 0 families none))
        | inr few ↦ inr (inl (ltb-false least members few))
      ]
      | inr many ↦ inr (inr (leb-false (first + members * families) MAX_SETS_OF_SERVICE many))
    ]

no_key : (first families members : ℕ) (key : List ℕ) → key_set first families members [] key ≡ None
    → (families ≡ 0) ⊎ ((members ≡ 0) ⊎ (MAX_SETS_OF_SERVICE < first + members * families))
no_key first families members key e =
    elim (missing first families members 0 (untold (has_key_sets first families members []) (number_of first families members [] key) e)) [
      | inl none ↦ inl none
      | inr (inl few) ↦ inr (inl (omega (arith, few)))
      | inr (inr many) ↦ inr (inr many)
    ]

no_member : (first families members byte : ℕ) (bytes key : List ℕ) → key_set first families members (byte ∷ bytes) key ≡ None
    → (families ≡ 0) ⊎ ((members ≤ 1) ⊎ (MAX_SETS_OF_SERVICE < first + members * families))
no_member first families members byte bytes key e =
    elim (missing first families members (least_members (byte ∷ bytes)) (untold (has_key_sets first families members (byte ∷ bytes)) (number_of first families members (byte ∷ bytes) key) e)) [
      | inl none ↦ inl none
      | inr (inl few) ↦ inr (inl (omega (arith, few, least_one byte bytes)))
      | inr (inr many) ↦ inr (inr many)
    ]

pub key_sets_are : KeySetsAre
key_sets_are = record {
  within = is_within;
  root = is_root;
  member = is_member;
  parent = has_parent;
  none = no_key;
  no_member = no_member;
  name = refl;
  first_name = refl;
}
