-- What is read of an input first, what comes after it, and how all of it is answered.
use Rattle.std.specs.Prelude.{◌≡◌, ℕ, ◌+◌, ◌≤◌, false, List, [], ◌++◌, Option, Some, None, Result, Ok, Err, length, take, drop}
use Rattle.std.specs.List.{AllByRecursion}
use Rattle.lt_io.specs.Streams.{SourceState, ReadsOn, ReadsOut, FailsBy}
use Rattle.lt_io.specs.declared.whole.ReadFailure.{ReadFailure}
use Rattle.lt_io.specs.declared.whole.ReadFailure.TheVariants.{Memory}
use Rattle.lt_modes.specs.Script.{ScriptData}
use Rattle.lt_text.specs.Text.{lines, is_line_end, HasNone}
use Rattle.lt_journal.specs.Split.{is_journal_line, input_parts}
use Rattle.lt_world.specs.Fields.{WorldData}
use Rattle.lt_law_journals.specs.Checking.{EndsLine, IsSettled, checked}
use Rattle.lt_checker.specs.Checker.{CheckerData, StandsFor, IsWorldAnswer, IsMemory, AreGoodToLast}
use Rattle.lt_checker.specs.Input.{HasFaultBefore, IsBad, IsEndedRun, MayWantMemory}
use Rattle.lt_checker.specs.declared.error.ReplayError.{ReplayError}
use Rattle.lt_checker.specs.declared.error.ReplayError.TheVariants.{Bad}
use Rattle.lt_checker.specs.declared.error.InputError.{InputError}
use Rattle.lt_checker.specs.declared.error.InputError.TheVariants.{NoMemory, Refused, BadJournal}
use Rattle.lt_checker.specs.declared.input.EndedRun.{EndedRun}
use Rattle.lt_checker.specs.declared.limits.TheConstants.{MAX_JOURNAL}

-- these bytes tell where the input is cut: there are no others, and nothing stands after a line `journal`; or whatever
-- comes after them, it is cut where they are
abbrev pub IsHeadCut : List ℕ → Option ℕ → Type 0
IsHeadCut bytes None = drop (input_parts bytes).journal bytes ≡ []
IsHeadCut bytes (Some room) = IsSettled bytes

-- none of their lines is `journal`
abbrev pub HasNoJournal : List ℕ → Type 0
HasNoJournal bytes = AllByRecursion (λ line. is_journal_line line ≡ false) (lines bytes)

-- the last line of the bytes begins at this place, it has no line end, and no line before it is `journal`
pub record IsLastLine (bytes : List ℕ) (last : ℕ) : Type 0 where
  pub within : last ≤ length bytes
  pub begins : EndsLine (take last bytes)
  pub no_end : HasNone is_line_end (drop last bytes)
  pub no_journal : HasNoJournal (take last bytes)

-- an input was read as far as these bytes: to its end, or so that so many more may come
abbrev pub IsReadTo : List ℕ → Option ℕ → SourceState → SourceState → Type 0
IsReadTo bytes None before after = ReadsOut bytes before after
IsReadTo bytes (Some room) before after = (length bytes + room ≡ MAX_JOURNAL) × ReadsOn bytes before after

-- these bytes are all that came after the first ones: none, where the source was found at its end before
abbrev pub IsRest : Option ℕ → List ℕ → SourceState → SourceState → Type 0
IsRest None rest before after = (rest ≡ []) × (after ≡ before)
IsRest (Some room) rest before after = (length rest ≤ room) × ReadsOut rest before after

-- what came after the first ones was not read whole, for this reason
abbrev pub FailsRest : Option ℕ → ReadFailure → SourceState → SourceState → Type 0
FailsRest None why before after = (why ≡ Memory) × (after ≡ before)
FailsRest (Some room) why before after = FailsBy why room before after

-- the checker was fed these bytes too
pub record IsFed (rest : List ℕ) (old new : CheckerData) : Type 0 where
  pub script : new.script ≡ old.script
  pub stands : (bytes : List ℕ) → StandsFor old bytes → StandsFor new (bytes ++ rest)

-- no more than so many bytes may come
abbrev pub IsRoom : Option ℕ → Type 0
IsRoom None = Unit {0}
IsRoom (Some room) = room ≤ MAX_JOURNAL

-- a line that is called bad is one of so many bytes, or the one after them
abbrev pub IsLineOf : ℕ → Result WorldData ReplayError → Type 0
IsLineOf size (Err (Bad line)) = line ≤ size + 1
IsLineOf size told = Unit {0}

-- what is said of these lines of a journal, and where memory was refused, that it may have been wanting
pub record IsJournalAnswer (script : ScriptData) (all : List (List ℕ)) (told : Result WorldData ReplayError)
    : Type 0 where
  pub answer : IsWorldAnswer script (checked script all) told
  pub memory : IsMemory told → AreGoodToLast script all

-- these bytes were read whole, and this is why they say nothing
abbrev pub FailsBytes : List ℕ → InputError → Type 0
FailsBytes bytes NoMemory = MayWantMemory bytes
FailsBytes bytes (Refused fault) = HasFaultBefore (Some bytes) fault
FailsBytes bytes (BadJournal line) = IsBad (Some bytes) line
FailsBytes bytes other = ⊥

-- an input of these bytes is answered so
abbrev pub AnswersInput : List ℕ → Result EndedRun InputError → Type 0
AnswersInput bytes (Ok ended) = IsEndedRun (Some bytes) ended.script ended.world
AnswersInput bytes (Err error) = FailsBytes bytes error
