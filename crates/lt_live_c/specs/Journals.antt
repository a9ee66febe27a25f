-- The journal of a service's run.
use Rattle.std.specs.Prelude.{◌≡◌, ◌<◌, ℕ, ◌-◌, ◌++◌, ◌⊎◌, Bool, true, false, List, [], Option, Some, None, min, length, take, drop, count_by, map}
use Rattle.lt_modes.specs.Script.{ScriptData}
use Rattle.lt_spec.specs.World.{Logged}
use Rattle.lt_spec.specs.declared.limits.TheConstants.{MAX_SETS}
use Rattle.lt_spec.specs.Script.{IsShort}
use Rattle.lt_script.specs.Printing.{print_of}
use Rattle.lt_journal.specs.declared.line.Line.{Line}
use Rattle.lt_journal.specs.declared.line.Line.TheVariants.{Held, Waiting}
use Rattle.lt_journal.specs.RunLines.{closing_lines, text_of}
use Rattle.lt_live.specs.Live.{AreLive, IsRunOfService}
use Rattle.lt_threads.specs.Meeting.{HaveAll, AreTooMany}
use Rattle.lt_live.specs.Stations.{runner_of}
use Rattle.lt_live_c.specs.declared.code.TheConstants.{OK, WRONG_HANDLE, NO_MEMORY, FORGOTTEN, TOO_MANY}
use Rattle.lt_live_c.specs.declared.journal.Journal.{Journal}
use Rattle.lt_live_c.specs.declared.service.Service.{Service}
use Rattle.lt_live_c.specs.declared.content.Content.{Content}
use Rattle.lt_live_c.specs.declared.content.Content.TheVariants as contents
use Rattle.lt_live_c.specs.Taking.{BothStand, WrongOr}

-- the line says what is held at the end
abbrev pub says_held : Line → Bool
says_held (Held client set mode count) = true
says_held other = false

-- the line says who waits at the end
abbrev pub says_waiting : Line → Bool
says_waiting (Waiting client set mode) = true
says_waiting other = false

-- the texts of the script and of the run, and how many lines of it say what is held and who waits at the end
pub record TellsOf (script : ScriptData) (run : List Logged) (journal : Journal) : Type 0 where
  pub script_is : journal.script.items ≡ print_of script
  pub text_is : journal.text.items ≡ text_of script run None
  pub held : journal.held ≡ count_by says_held (closing_lines script run None)
  pub waiting : journal.waiting ≡ count_by says_waiting (closing_lines script run None)

-- it tells of the run that the service's stations have made, with all their moves, and all commands that were submitted
-- but those in hand and in the rings; the text of its script can be read
abbrev pub IsJournalOfService : Service → Journal → Type 0
IsJournalOfService s journal = (first : ScriptData) → AreLive first s.stations.items s.sessions.items
    → (script : ScriptData) × (run : List Logged) × IsRunOfService first s.stations.items s.sessions.items script run
    × IsShort script × TellsOf script run journal

abbrev pub JournalIsOf : Content → Content → Type 0
JournalIsOf (contents.Service s) (contents.Journal journal) = IsJournalOfService s journal
JournalIsOf a b = ⊥

abbrev pub HandleFinishes : Option Content → Option Content → Type 0
HandleFinishes a b = BothStand JournalIsOf a b

-- some station of the service has forgotten moves or commands
abbrev pub SomeForgot : Service → Type 0
SomeForgot s = ¬ HaveAll (map runner_of s.stations.items)

abbrev pub ServiceForgot : Content → Type 0
ServiceForgot (contents.Service s) = SomeForgot s
ServiceForgot other = ⊥

-- the script that they were opened for has more sets than the text of a script may have
abbrev pub HasManySets : Service → Type 0
HasManySets s = (first : ScriptData) → AreLive first s.stations.items s.sessions.items → MAX_SETS < length first.sets

-- its stations have appended more commands together than the text of a script may have, or it has more sets
abbrev pub HaveTooMany : Service → Type 0
HaveTooMany s = AreTooMany (map runner_of s.stations.items) ⊎ HasManySets s

abbrev pub ServiceHasTooMany : Content → Type 0
ServiceHasTooMany (contents.Service s) = HaveTooMany s
ServiceHasTooMany other = ⊥

-- why there is no journal
pub record FinishRefused (code : ℕ) (a : Content) : Type 0 where
  pub forgotten : code ≡ FORGOTTEN → ServiceForgot a
  pub forgot : ServiceForgot a → code ≡ FORGOTTEN
  pub many : code ≡ TOO_MANY → ServiceHasTooMany a
  pub only : (code ≡ WRONG_HANDLE) ⊎ ((code ≡ NO_MEMORY) ⊎ ((code ≡ FORGOTTEN) ⊎ (code ≡ TOO_MANY)))

abbrev pub HandleNotFinished : ℕ → Option Content → Type 0
HandleNotFinished code a = WrongOr code (FinishRefused code) a

-- the text of the script with its commands; empty where it is no journal
abbrev pub script_of_content : Content → List ℕ
script_of_content (contents.Journal journal) = journal.script.items
script_of_content other = []

abbrev pub script_at : Option Content → List ℕ
script_at None = []
script_at (Some content) = script_of_content content

-- the text of the run
abbrev pub text_in : Content → List ℕ
text_in (contents.Journal journal) = journal.text.items
text_in other = []

abbrev pub text_of_content : Option Content → List ℕ
text_of_content None = []
text_of_content (Some content) = text_in content

-- so many bytes of the text from this one on, as many as there are or as have room, stand first now
pub record CopiesFrom (text : List ℕ) (from count : ℕ) (old new : List ℕ) : Type 0 where
  pub many : count ≡ min (length old) (length text - from)
  pub bytes : new ≡ take count (drop from text) ++ drop count old

-- C is told how many lines say what is held, and how many who waits
abbrev pub TellsEnd : Content → ℕ → ℕ → ℕ → ℕ → ℕ → Type 0
TellsEnd (contents.Journal journal) code was held waited waiting = (code ≡ OK) × (held ≡ journal.held)
    × (waiting ≡ journal.waiting)
TellsEnd other code was held waited waiting = (code ≡ WRONG_HANDLE) × (held ≡ was) × (waiting ≡ waited)

abbrev pub HandleTellsEnd : Option Content → ℕ → ℕ → ℕ → ℕ → ℕ → Type 0
HandleTellsEnd None code was held waited waiting = (code ≡ WRONG_HANDLE) × (held ≡ was) × (waiting ≡ waited)
HandleTellsEnd (Some content) code was held waited waiting = TellsEnd content code was held waited waiting
