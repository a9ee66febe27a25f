-- What is opened for C, or why nothing is.
use Rattle.std.specs.Prelude.{◌≡◌, ◌≢◌, ◌<◌, ◌+◌, ◌&&◌, ◌⊎◌, ℕ, Bool, false, List, [], Option, Some, None, Ok, Err, length, nat_le, nat_lt}
use Rattle.lt_modes.specs.Script.{ScriptData}
use Rattle.lt_spec.specs.declared.moves.TheConstants.{MAX_MOVES_OF_SERVICE}
use Rattle.lt_spec.specs.declared.limits.TheConstants.{MAX_COMMANDS, MAX_SETS_OF_SERVICE}
use Rattle.lt_script.specs.declared.fault.ScriptFault.{ScriptFault}
use Rattle.lt_script.specs.Fault.{number_of}
use Rattle.lt_script.specs.Reading.{read_of}
use Rattle.lt_live.specs.Stations.{IsOpen, most_share}
use Rattle.lt_live_c.specs.declared.code.TheConstants.{OK, NO_MEMORY, BAD_ARGUMENT, BAD_SCRIPT, TOO_MANY, BAD_SET}
use Rattle.lt_live_c.specs.declared.service.Service.{Service}
use Rattle.lt_live_c.specs.declared.content.Content.{Content}
use Rattle.lt_live_c.specs.declared.content.Content.TheVariants as contents
use Rattle.lt_live_c.specs.declared.limits.TheConstants.{MAX_BYTES}
use Rattle.lt_live_c.specs.NewSets.{SetWords, with_next_sets}

-- the numbers are in range, and the text isn't too long
abbrev pub fits_for_c : List ℕ → ℕ → ℕ → Bool
fits_for_c text limit places =
    nat_le (length text) MAX_BYTES
    && ((nat_lt 0 limit && nat_le limit MAX_MOVES_OF_SERVICE) && (nat_lt 0 places && nat_le places MAX_COMMANDS))

-- the stations and sessions of the script, without its commands
abbrev pub IsOpenedOf : ScriptData → ℕ → ℕ → Service → Type 0
IsOpenedOf script limit places s =
    IsOpen (record script { commands = [] }) limit places (most_share script) s.stations.items s.sessions.items

-- those of the script that the text denotes
abbrev pub IsOpenedFrom : List ℕ → ℕ → ℕ → Service → Type 0
IsOpenedFrom text limit places s =
    (script : ScriptData) × (read_of text ≡ Ok script) × IsOpenedOf script limit places s

-- those of this script with further sets
abbrev pub IsOpenedWith : List ℕ → List SetWords → ℕ → ℕ → Service → Type 0
IsOpenedWith text sets limit places s =
    (script whole : ScriptData) × (read_of text ≡ Ok script) × (with_next_sets script sets ≡ Some whole)
    × IsOpenedOf whole limit places s

abbrev pub HandleOpened : List ℕ → ℕ → ℕ → Option Content → Type 0
HandleOpened text limit places (Some (contents.Service s)) = IsOpenedFrom text limit places s
HandleOpened text limit places other = ⊥

abbrev pub HandleOpenedWith : List ℕ → List SetWords → ℕ → ℕ → Option Content → Type 0
HandleOpenedWith text sets limit places (Some (contents.Service s)) = IsOpenedWith text sets limit places s
HandleOpenedWith text sets limit places other = ⊥

-- why there is no script
pub record TextRefused (code : ℕ) (text : List ℕ) : Type 0 where
  pub bad_script : code ≡ BAD_SCRIPT → (fault : ScriptFault) × (read_of text ≡ Err fault)
  pub only : (code ≡ BAD_SCRIPT) ⊎ (code ≡ NO_MEMORY)

-- why it has no further sets
pub record SetsRefused (code : ℕ) (sets : List SetWords) (script : ScriptData) : Type 0 where
  pub too_many : code ≡ TOO_MANY → MAX_SETS_OF_SERVICE < length script.sets + length sets
  pub many : MAX_SETS_OF_SERVICE < length script.sets + length sets → code ≡ TOO_MANY
  pub bad_set : code ≡ BAD_SET → with_next_sets script sets ≡ None
  pub only : (code ≡ TOO_MANY) ⊎ ((code ≡ BAD_SET) ⊎ (code ≡ NO_MEMORY))

-- why nothing was opened
pub record OpenRefused (code : ℕ) (text : List ℕ) (limit places : ℕ) : Type 0 where
  pub bad_argument : code ≡ BAD_ARGUMENT → fits_for_c text limit places ≡ false
  pub unfit : fits_for_c text limit places ≡ false → code ≡ BAD_ARGUMENT
  pub bad_script : code ≡ BAD_SCRIPT → (fault : ScriptFault) × (read_of text ≡ Err fault)
  pub only : (code ≡ BAD_ARGUMENT) ⊎ ((code ≡ BAD_SCRIPT) ⊎ (code ≡ NO_MEMORY))

-- the same with further sets: with those of the text they are more than a service may have, or one can't be added
pub record OpenSetsRefused (code : ℕ) (text : List ℕ) (sets : List SetWords) (limit places : ℕ) : Type 0 where
  pub bad_argument : code ≡ BAD_ARGUMENT → fits_for_c text limit places ≡ false
  pub unfit : fits_for_c text limit places ≡ false → code ≡ BAD_ARGUMENT
  pub bad_script : code ≡ BAD_SCRIPT → (fault : ScriptFault) × (read_of text ≡ Err fault)
  pub too_many : code ≡ TOO_MANY
      → (script : ScriptData) × (read_of text ≡ Ok script) × (MAX_SETS_OF_SERVICE < length script.sets + length sets)
  pub bad_set : code ≡ BAD_SET
      → (script : ScriptData) × (read_of text ≡ Ok script) × (with_next_sets script sets ≡ None)
  pub only : (code ≡ BAD_ARGUMENT)
      ⊎ ((code ≡ BAD_SCRIPT) ⊎ ((code ≡ TOO_MANY) ⊎ ((code ≡ BAD_SET) ⊎ (code ≡ NO_MEMORY))))

-- the line and the number of the text's first fault
pub record IsToldFault (text : List ℕ) (line fault : ℕ) : Type 0 where
  pub found : ScriptFault
  pub read : read_of text ≡ Err found
  pub line_is : line ≡ found.line
  pub number_is : fault ≡ number_of found.fault

-- C is told the first fault of a text, or that it is a script
pub record TellsFault (text : List ℕ) (code line_was line fault_was fault : ℕ) : Type 0 where
  pub ok : code ≡ OK → (script : ScriptData) × (read_of text ≡ Ok script)
  pub bad_script : code ≡ BAD_SCRIPT → IsToldFault text line fault
  pub too_many : code ≡ TOO_MANY → MAX_BYTES < length text
  pub long : MAX_BYTES < length text → code ≡ TOO_MANY
  pub untold : code ≢ BAD_SCRIPT → (line ≡ line_was) × (fault ≡ fault_was)
  pub only : (code ≡ OK) ⊎ ((code ≡ BAD_SCRIPT) ⊎ ((code ≡ TOO_MANY) ⊎ (code ≡ NO_MEMORY)))
