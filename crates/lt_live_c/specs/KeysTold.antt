-- What C is told of sets for keys and of faults, in literals.
use Rattle.std.specs.Prelude.{◌≡◌, ◌≢◌, ◌<◌, ◌≤◌, ◌⊎◌, ◌+◌, ◌*◌, ◌∷◌, [], ℕ, List, Ok, Err, Option, Some, None, codes, length}
use Rattle.lt_modes.specs.Script.{ScriptData, family_at}
use Rattle.lt_script.specs.Reading.{read_of}
use Rattle.lt_live.specs.Stations.{IsOpen}
use Rattle.lt_keys.specs.Keys.{key_set}
use Rattle.lt_live_c.specs.declared.content.Content.{Content}
use Rattle.lt_live_c.specs.KeySets.{key_sets, TellsKey}
use Rattle.lt_live_c.specs.NewSets.{with_next_sets}
use Rattle.lt_live_c.specs.Opening.{HandleOpenedWith, OpenSetsRefused, TellsFault}
use Rattle.lt_live_c.specs.ServicesTold.{OfService, client_text, client_script}

-- the script with two families of two members each behind its one set
abbrev pub four_keys_script : ScriptData
four_keys_script = record client_script {
  sets =
      record { name = codes "s"; family = 0 } ∷
      record { name = codes "key.00000"; family = 1 } ∷
      record { name = codes "key.00001"; family = 1 } ∷
      record { name = codes "key.00002"; family = 3 } ∷
      record { name = codes "key.00003"; family = 3 } ∷
      [];
}

-- this is so of what C is told of each key by these numbers
abbrev pub AfterKey : (Option ℕ → ℕ → ℕ → ℕ → Type 0) → Type 0
AfterKey Told =
    (first families members : ℕ) (parent key : List ℕ) (code was set : ℕ)
    → TellsKey (key_set first families members parent key) code was set
    → Told (key_set first families members parent key) code was set

-- what was opened with sets for keys, or why nothing was; and at which of them a key is
pub record KeysTold : Type 0 where
  pub opened : (new : Option Content) → HandleOpenedWith client_text (key_sets 2 2) 9 2 new
      → OfService new (λ s. IsOpen four_keys_script 9 2 576460752303423488 s.stations.items s.sessions.items)
  pub count : (families members : ℕ) → length (key_sets families members) ≡ members * families
  -- each set's family has the number of its root
  pub families : (script whole : ScriptData) (families members family member : ℕ)
      → with_next_sets script (key_sets families members) ≡ Some whole → family < families → member < members
      → family_at whole.sets (length script.sets + (family * members + member)) ≡ length script.sets + family * members
  pub few_keys : (families members limit places : ℕ) → members * families ≤ 65535
      → OpenSetsRefused 10 client_text (key_sets families members) limit places → ⊥
  pub good_keys : (limit places : ℕ) → OpenSetsRefused 11 client_text (key_sets 2 2) limit places → ⊥
  pub key : AfterKey (λ found code was set. code ≡ 0 → found ≡ Some set)
  pub no_key : AfterKey (λ found code was set. code ≡ 4 → (found ≡ None) × (set ≡ was))
  pub key_codes : AfterKey (λ found code was set. (code ≡ 0) ⊎ (code ≡ 4))

-- a text whose second line declares what is no name
abbrev pub unnamed_text : List ℕ
unnamed_text = codes "nodes 1\nset 9s\n"

-- the first fault of a text, or none
pub record FaultsTold : Type 0 where
  pub line : (line_was line fault_was fault : ℕ) → TellsFault unnamed_text 5 line_was line fault_was fault → line ≡ 2
  pub number : (line_was line fault_was fault : ℕ) → TellsFault unnamed_text 5 line_was line fault_was fault → fault ≡ 6
  pub no_script : (line_was line fault_was fault : ℕ) → TellsFault unnamed_text 0 line_was line fault_was fault → ⊥
  pub script : (text : List ℕ) (script : ScriptData) (line_was line fault_was fault : ℕ) → read_of text ≡ Ok script
      → TellsFault text 5 line_was line fault_was fault → ⊥
  pub short : (text : List ℕ) (line_was line fault_was fault : ℕ) → length text ≤ 1048576
      → TellsFault text 10 line_was line fault_was fault → ⊥
  pub long : (text : List ℕ) (code line_was line fault_was fault : ℕ) → 1048576 < length text
      → TellsFault text code line_was line fault_was fault → code ≡ 10
  pub stays : (text : List ℕ) (code line_was line fault_was fault : ℕ) → code ≢ 5
      → TellsFault text code line_was line fault_was fault → (line ≡ line_was) × (fault ≡ fault_was)
  pub fault_codes : (text : List ℕ) (code line_was line fault_was fault : ℕ)
      → TellsFault text code line_was line fault_was fault
      → (code ≡ 0) ⊎ ((code ≡ 5) ⊎ ((code ≡ 10) ⊎ (code ≡ 3)))
