-- Sets that are asked for by name.
use Rattle.std.specs.Prelude.{ℕ, ◌==◌, ◌++◌, ◌∷◌, [], Bool, true, List, Option, Some, None, if◌then◌else◌, is_some, length, nat_lt, not}
use Rattle.lt_modes.specs.Script.{ScriptData, family_at}
use Rattle.lt_spec.specs.Script.{is_name, set_number, client_number}
use Rattle.lt_spec.specs.declared.limits.TheConstants.{MAX_SETS_OF_SERVICE}
use Rattle.lt_script.specs.declared.script.by_name.SetByName.{SetByName}
use Rattle.lt_script.specs.declared.script.by_name.SetByName.TheVariants.{Set, NoName, IsClient, NoParent, TooMany}

-- the parent is a set of the script, if one is named
abbrev pub has_parent : ScriptData → Option ℕ → Bool
has_parent s None = true
has_parent s (Some parent) = nat_lt parent (length s.sets)

-- the family of a further set: that of its parent, or one of its own
abbrev pub family_with : ScriptData → Option ℕ → ℕ
family_with s None = length s.sets
family_with s (Some parent) = family_at s.sets parent

-- the script with this further set
abbrev pub with_set : ScriptData → List ℕ → Option ℕ → ScriptData
with_set s name parent = record s { sets = s.sets ++ record { name = name; family = family_with s parent } ∷ [] }

-- what a name comes to that no set has
abbrev pub new_set : ScriptData → List ℕ → Option ℕ → SetByName
new_set s name parent =
    if not (is_name name) then NoName
    else if is_some (client_number s name) then IsClient
    else if not (has_parent s parent) then NoParent
    else if nat_lt (length s.sets) MAX_SETS_OF_SERVICE then Set (length s.sets)
    else TooMany

abbrev pub old_or_new : Option ℕ → SetByName → SetByName
old_or_new (Some set) told = Set set
old_or_new None told = told

-- what a name comes to: the set that has it, or else a further one
abbrev pub set_by_name : ScriptData → List ℕ → Option ℕ → SetByName
set_by_name s name parent = old_or_new (set_number s name) (new_set s name parent)

-- the script then: with that further set, if there is one
abbrev pub after_name : ScriptData → List ℕ → Option ℕ → SetByName → ScriptData
after_name s name parent (Set set) = if set == length s.sets then with_set s name parent else s
after_name s name parent NoName = s
after_name s name parent IsClient = s
after_name s name parent NoParent = s
after_name s name parent TooMany = s
