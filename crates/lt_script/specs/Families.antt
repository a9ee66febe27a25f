-- The sets of a family, each with the next one.
use Rattle.std.specs.Prelude.{◌≡◌, ◌≢◌, ◌<◌, ◌≤◌, ℕ, zero, suc, List, length, slice_index, slice_set}
use Rattle.lt_modes.specs.Script.{ScriptData, family_at}
use Rattle.lt_script.specs.Index.{IsLink}

-- this is the next set of the set's family
pub record IsNextRelated (s : ScriptData) (set next : ℕ) : Type 0 where
  pub later : set < next
  pub inside : next < length s.sets
  pub related : family_at s.sets next ≡ family_at s.sets set
  pub first : (k : ℕ) → set < k → k < next → family_at s.sets k ≢ family_at s.sets set

-- no later set is of the set's family
abbrev pub IsLastRelated : ScriptData → ℕ → Type 0
IsLastRelated s set = (k : ℕ) → set < k → k < length s.sets → family_at s.sets k ≢ family_at s.sets set

-- How they are kept.

-- the place behind this one, of the first so many, that comes next in its family; 0 if none does
pub record ComesNext (family_at : ℕ → ℕ) (place count next : ℕ) : Type 0 where
  pub there : 0 < next → (place < next) × (next < count) × (family_at next ≡ family_at place)
  pub first : (k : ℕ) → place < k → k < count → family_at k ≡ family_at place → (0 < next) × (next ≤ k)

-- of the first so many places each family is linked to its last one, and each place to the next one of its family
pub record AreChained (family_at : ℕ → ℕ) (count : ℕ) (lasts nexts : List ℕ) : Type 0 where
  pub not_later : (place : ℕ) → place < count → family_at place ≤ place
  pub families : length lasts ≡ count
  pub places : length nexts ≡ count
  pub of_families : (family : ℕ) → family < count → IsLink family_at family count (slice_index lasts family)
  pub of_places : (place : ℕ) → place < count → ComesNext family_at place count (slice_index nexts place)

-- what the places are linked to, where one more than a place tells which one is linked to this one; 0 tells of none
abbrev pub linked_to : List ℕ → ℕ → ℕ → List ℕ
linked_to nexts zero next = nexts
linked_to nexts (suc place) next = slice_set nexts place next
