-- Sets that C adds for keys: families with a root each, and with a name for each set.
use Rattle.std.specs.Prelude.{◌≡◌, ℕ, zero, suc, ◌==◌, ◌+◌, ◌-◌, ◌*◌, ◌%◌, if◌then◌else◌, List, [], ◌∷◌, Option, Some, None}
use Rattle.lt_keys.specs.Keys.{key_name}
use Rattle.lt_live_c.specs.declared.code.TheConstants.{OK, BAD_ARGUMENT}
use Rattle.lt_live_c.specs.NewSets.{SetWords}

-- the set with this number among those of keys: the first of a family is the parent of its other members
abbrev pub key_words : ℕ → ℕ → SetWords
key_words members number = record {
  name = key_name number;
  parent = if number % members == 0 then [] else key_name (number - number % members);
}

-- so many of them, from this number on
abbrev pub key_sets_from : ℕ → ℕ → ℕ → List SetWords
key_sets_from members number zero = []
key_sets_from members number (suc more) = key_words members number ∷ key_sets_from members (number + 1) more

-- the sets of so many families with so many members each
abbrev pub key_sets : ℕ → ℕ → List SetWords
key_sets families members = key_sets_from members 0 (members * families)

-- C is told the set of a key, or that its numbers have none
abbrev pub TellsKey : Option ℕ → ℕ → ℕ → ℕ → Type 0
TellsKey None code was set = (code ≡ BAD_ARGUMENT) × (set ≡ was)
TellsKey (Some found) code was set = (code ≡ OK) × (set ≡ found)
