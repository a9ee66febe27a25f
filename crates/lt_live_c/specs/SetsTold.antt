-- What C is told of sets, in literals: the number of a name, and what was opened with further sets, or why nothing was.
use Rattle.std.specs.Prelude.{◌≡◌, ◌≢◌, ◌<◌, ◌≤◌, ◌⊎◌, ◌∷◌, [], ℕ, List, false, Ok, Option, Some, codes, length}
use Rattle.lt_modes.specs.Script.{ScriptData}
use Rattle.lt_script.specs.Reading.{read_of}
use Rattle.lt_live.specs.declared.ends.Session.{Session}
use Rattle.lt_live.specs.Stations.{IsOpen}
use Rattle.lt_live_c.specs.declared.content.Content.{Content}
use Rattle.lt_live_c.specs.declared.content.Content.TheVariants as contents
use Rattle.lt_live_c.specs.Calls.{HandleTellsSet}
use Rattle.lt_live_c.specs.NewSets.{SetWords}
use Rattle.lt_live_c.specs.Opening.{HandleOpenedWith, OpenSetsRefused, fits_for_c}
use Rattle.lt_live_c.specs.Told.{kind_of}
use Rattle.lt_live_c.specs.ServicesTold.{OfService, client_text, client_script}

-- a further set with a parent, and one without
abbrev pub set_with : List ℕ → List ℕ → SetWords
set_with name parent = record { name = name; parent = parent }

abbrev pub set_alone : List ℕ → SetWords
set_alone name = record { name = name; parent = [] }

-- a set more in the family of the script's one, and one in a family of its own
abbrev pub two_more : List SetWords
two_more = set_with (codes "t") (codes "s") ∷ set_alone (codes "u") ∷ []

abbrev pub three_set_script : ScriptData
three_set_script = record client_script {
  sets =
      record { name = codes "s"; family = 0 } ∷
      record { name = codes "t"; family = 0 } ∷
      record { name = codes "u"; family = 2 } ∷
      [];
}

-- this is so of what C is told of a name at a session of the script with these sets
abbrev pub AfterName : List ℕ → (ℕ → ℕ → ℕ → Type 0) → Type 0
AfterName name Told =
    (s : Session) (code was set : ℕ) → s.script ≡ three_set_script
    → HandleTellsSet (Some (contents.Session s)) name code was set → Told code was set

-- a set's number by its name
pub record NamesTold : Type 0 where
  pub first : AfterName (codes "s") (λ code was set. (code ≡ 0) × (set ≡ 0))
  pub third : AfterName (codes "u") (λ code was set. (code ≡ 0) × (set ≡ 2))
  pub no_set : AfterName (codes "a") (λ code was set. (code ≡ 1) × (set ≡ was))
  pub no_session : (content : Content) (name : List ℕ) (code was set : ℕ) → kind_of content ≢ 2
      → HandleTellsSet (Some content) name code was set → (code ≡ 2) × (set ≡ was)

-- with these further sets nothing is ever opened
abbrev pub NeverOpened : List SetWords → Type 0
NeverOpened sets = (new : Option Content) → HandleOpenedWith client_text sets 9 2 new → ⊥

-- what was opened with further sets; and why nothing was
pub record OpensSetsTold : Type 0 where
  pub opened : (new : Option Content) → HandleOpenedWith client_text two_more 9 2 new
      → OfService new (λ s. IsOpen three_set_script 9 2 576460752303423488 s.stations.items s.sessions.items)
  pub name_of_set : NeverOpened (set_alone (codes "s") ∷ [])
  pub name_of_client : NeverOpened (set_alone (codes "a") ∷ [])
  pub no_name : NeverOpened (set_alone (codes "7") ∷ [])
  pub same_name : NeverOpened (set_alone (codes "t") ∷ set_alone (codes "t") ∷ [])
  pub no_parent : NeverOpened (set_with (codes "t") (codes "a") ∷ [])
  pub later_parent : NeverOpened (set_with (codes "t") (codes "u") ∷ set_alone (codes "u") ∷ [])
  pub sets_in_range : (text : List ℕ) (sets : List SetWords) (limit places : ℕ)
      → length text ≤ 1048576 → 0 < limit → limit ≤ 36028797018963968 → 0 < places → places ≤ 4096
      → OpenSetsRefused 4 text sets limit places → ⊥
  pub sets_out_of_range : (code : ℕ) (text : List ℕ) (sets : List SetWords) (limit places : ℕ)
      → fits_for_c text limit places ≡ false → OpenSetsRefused code text sets limit places → code ≡ 4
  pub sets_no_fault : (text : List ℕ) (sets : List SetWords) (limit places : ℕ) (script : ScriptData)
      → read_of text ≡ Ok script → OpenSetsRefused 5 text sets limit places → ⊥
  pub few_sets : (sets : List SetWords) (limit places : ℕ) → length sets ≤ 65535
      → OpenSetsRefused 10 client_text sets limit places → ⊥
  pub good_sets : (limit places : ℕ) → OpenSetsRefused 11 client_text two_more limit places → ⊥
  pub sets_codes : (code : ℕ) (text : List ℕ) (sets : List SetWords) (limit places : ℕ)
      → OpenSetsRefused code text sets limit places
      → (code ≡ 4) ⊎ ((code ≡ 5) ⊎ ((code ≡ 10) ⊎ ((code ≡ 11) ⊎ (code ≡ 3))))
