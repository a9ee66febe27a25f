-- Where there are sets of keys, each family and each of its members is one.
use Rattle.std.proofs.Common.{◌≡◌, ◌<◌, ◌≤◌, ◌+◌, ◌*◌, ◌&&◌, ℕ, List, true, arith, nat_lt, nat_le, leb-true, ltb-true}
use Rattle.std.proofs.lemmas.Bool.{and_parts}
use Rattle.std.proofs.lemmas.Nat.{mul-add-lt}
use Rattle.lt_spec.specs.declared.limits.TheConstants.{MAX_SETS_OF_SERVICE}
use Rattle.lt_keys.specs.Keys.{least_members, has_key_sets}

module _ (first families members : ℕ) (parent : List ℕ) (has : has_key_sets first families members parent ≡ true) where
  both : (nat_lt 0 families && nat_lt (least_members parent) members ≡ true) × (nat_le (first + members * families) MAX_SETS_OF_SERVICE ≡ true)
  both =
      and_parts (nat_lt 0 families && nat_lt (least_members parent) members) (nat_le (first + members * families) MAX_SETS_OF_SERVICE) has

  pub some_family : 0 < families
  some_family = ltb-true 0 families (and_parts (nat_lt 0 families) (nat_lt (least_members parent) members) both.0).0

  pub some_member : least_members parent < members
  some_member =
      ltb-true (least_members parent) members (and_parts (nat_lt 0 families) (nat_lt (least_members parent) members) both.0).1

  pub few_sets : first + members * families ≤ MAX_SETS_OF_SERVICE
  few_sets = leb-true (first + members * families) MAX_SETS_OF_SERVICE both.1

  -- a member's place among all sets of keys
  pub inside : (family place : ℕ) → family < families → place < members → family * members + place < members * families
  inside family place below within = mul-add-lt family members place families below within
