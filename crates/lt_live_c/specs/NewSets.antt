-- Sets that C adds to those of a script's text.
use Rattle.std.specs.Prelude.{◌≡◌, ◌&&◌, not, ℕ, Bool, true, false, if◌then◌else◌, List, [], ◌∷◌, ◌++◌, Option, Some, None, option_map, option_and_then, length}
use Rattle.lt_modes.specs.Script.{ScriptData, family_at}
use Rattle.lt_spec.specs.Script.{is_name, is_declared, set_number}
use Rattle.lt_script.specs.ByName.{family_with, has_parent}
use Rattle.lt_live_c.specs.declared.new_sets.NewSet.{NewSet}

-- a further set: its name, and that of its parent, which is empty if it has none
pub record SetWords : Type 0 where
  pub name : List ℕ
  pub parent : List ℕ

-- what the code's value stands for
abbrev pub words_of_set : NewSet → SetWords
words_of_set set = record { name = set.name.now; parent = set.parent.now }

-- the family of a next set with this parent: one of its own if it has none, or that of the set with this name
abbrev pub family_of_next : ScriptData → List ℕ → Option ℕ
family_of_next s [] = Some (length s.sets)
family_of_next s (byte ∷ bytes) = option_map (family_at s.sets) (set_number s (byte ∷ bytes))

-- this is the number of the parent, if it has a name
pub record IsParent (s : ScriptData) (parent : List ℕ) (number : Option ℕ) : Type 0 where
  pub family : family_of_next s parent ≡ Some (family_with s number)
  pub there : has_parent s number ≡ true

abbrev pub in_family : ScriptData → List ℕ → ℕ → ScriptData
in_family s name family = record s { sets = s.sets ++ record { name = name; family = family } ∷ [] }

-- the word is a name, which no set and no client has
abbrev pub is_new_name : ScriptData → List ℕ → Bool
is_new_name s word = is_name word && not (is_declared s word)

-- the script with this set as its last one; none where it has no new name, or no set has its parent's
abbrev pub with_next_set : ScriptData → SetWords → Option ScriptData
with_next_set s set =
    if is_new_name s set.name then option_map (in_family s set.name) (family_of_next s set.parent) else None

-- the same of these sets, in order
abbrev pub with_next_sets : ScriptData → List SetWords → Option ScriptData
with_next_sets s [] = Some s
with_next_sets s (set ∷ rest) = option_and_then (λ (more : ScriptData). with_next_sets more rest) (with_next_set s set)

-- the set was added, or can't be
abbrev pub AddsSet : Bool → SetWords → ScriptData → ScriptData → Type 0
AddsSet true set old new = with_next_set old set ≡ Some new
AddsSet false set old new = with_next_set old set ≡ None

-- all were added, or one of them can't be
abbrev pub AddsSets : Bool → List SetWords → ScriptData → ScriptData → Type 0
AddsSets true sets old new = with_next_sets old sets ≡ Some new
AddsSets false sets old new = with_next_sets old sets ≡ None
