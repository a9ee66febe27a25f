-- In which world a checked run ended.
use Rattle.std.specs.Prelude.{◌≡◌, ◌≤◌, ℕ, length, List, Result, Ok, Err, Bool, true, false, Option, Some, None, ◌≢◌, [], option_map}
use Rattle.lt_modes.specs.Script.{ScriptData}
use Rattle.lt_spec.specs.World.{Logged}
use Rattle.lt_spec.specs.Script.{IsScript, IsShort}
use Rattle.lt_spec.specs.declared.moves.TheConstants.{MAX_MOVES}
use Rattle.lt_text.specs.Text.{is_line_end, HasNone}
use Rattle.lt_merge.specs.Merging.{RunData}
use Rattle.lt_journal.specs.declared.line.Line.{Line}
use Rattle.lt_law_journals.specs.Checking.{IsFinished, IsFirstBad, Place, Reader, HasCome, Feed, new_feed, fed_piece}
use Rattle.lt_world.specs.Fields.{WorldData}
use Rattle.lt_checker.specs.declared.error.ReplayError.{ReplayError}
use Rattle.lt_checker.specs.declared.error.ReplayError.TheVariants.{Memory, Bad}

-- the world is the one in which the told run of the script ended
pub record EndsIn (script : ScriptData) (told : Result (List Logged) ℕ) (world : WorldData) : Type 0 where
  pub script_is : world.script ≡ script
  pub run_is : told ≡ Ok world.run
  pub finished : IsFinished script world.run

-- the answer is the world in which the told run ended, or tells this bad line, or that memory was refused
abbrev pub IsWorldAnswer : ScriptData → Result (List Logged) ℕ → Result WorldData ReplayError → Type 0
IsWorldAnswer script told (Ok world) = EndsIn script told world
IsWorldAnswer script told (Err Memory) = Unit {0}
IsWorldAnswer script told (Err (Bad line)) = told ≡ Err line

-- Where a checker is among the lines, and what one line more makes of it.

-- the world and the lines that are due are those of a place that a reader has come to
pub record IsPlace (script : ScriptData) (world : WorldData) (due : List Line) : Type 0 where
  pub is_script : IsScript script
  pub is_short : IsShort script
  pub script_is : world.script ≡ script
  pub limit : world.limit ≡ MAX_MOVES
  pub come : HasCome script (record { run = world.run; due = due })

-- the line led to this place, or it is bad
abbrev pub LedTo : Option Place → Bool → List Logged → List Line → Type 0
LedTo next true run due = next ≡ Some (record { run = run; due = due })
LedTo next false run due = next ≡ None

-- the place, while no line was bad
abbrev pub place_now : Bool → List Logged → List Line → Option Place
place_now true run due = None
place_now false run due = Some (record { run = run; due = due })

-- where no line was bad, the fields are those of a place
abbrev pub KeepsPlace : Bool → ScriptData → WorldData → List Line → Type 0
KeepsPlace true script world due = Unit {0}
KeepsPlace false script world due = IsPlace script world due

-- what contracts see of a reader: its script, and where it is
pub record ReaderData : Type 0 where
  pub script : ScriptData
  pub reader : Reader

-- What contracts see of a checker, and what it answers.

-- a checker: its script, and what the bytes have told, but for one whose memory was refused
pub record CheckerData : Type 0 where
  pub script : ScriptData
  pub feed : Option Feed

-- the checker with what this reader and these bytes of a line tell
abbrev pub feed_of : Option ReaderData → List ℕ → Option Feed
feed_of None rest = None
feed_of (Some kept) rest = Some (record { reader = kept.reader; rest = rest })

-- the reader is one of the script
abbrev pub IsOfScript : ScriptData → Option ReaderData → Type 0
IsOfScript script None = Unit {0}
IsOfScript script (Some kept) = kept.script ≡ script

-- the checker after this piece
abbrev pub with_piece : CheckerData → List ℕ → CheckerData
with_piece checker piece = record checker { feed = option_map (λ feed. fed_piece checker.script feed piece) checker.feed }

-- the checker once memory was refused to it
abbrev pub spent : CheckerData → CheckerData
spent checker = record checker { feed = None }

-- the checker is as these bytes make it
abbrev pub StandsFor : CheckerData → List ℕ → Type 0
StandsFor checker bytes = checker.feed ≡ Some (fed_piece checker.script (new_feed checker.script) bytes)

-- the answer tells this run, or this bad line, or that memory was refused
abbrev pub IsAnswer : Result (List Logged) ℕ → Result RunData ReplayError → Type 0
IsAnswer told (Ok run) = told ≡ Ok run.entries
IsAnswer told (Err Memory) = Unit {0}
IsAnswer told (Err (Bad line)) = told ≡ Err line

-- the same, or none
abbrev pub IsAnswerOrNone : Result (List Logged) ℕ → Result (Option RunData) ReplayError → Type 0
IsAnswerOrNone told (Ok None) = Unit {0}
IsAnswerOrNone told (Ok (Some run)) = IsAnswer told (Ok run)
IsAnswerOrNone told (Err error) = IsAnswer told (Err error)

-- the answer is that memory was refused
abbrev pub IsMemory : {T : Type 0} → Result T ReplayError → Type 0
IsMemory (Ok told) = ⊥
IsMemory (Err Memory) = Unit {0}
IsMemory (Err (Bad line)) = ⊥

-- of these lines of a journal none but the last is bad
abbrev pub AreGoodToLast : ScriptData → List (List ℕ) → Type 0
AreGoodToLast script all = (k : ℕ) → IsFirstBad script all k → length all ≤ k

-- a line is read, which may take memory: no line was bad, and the piece ends one
pub record MayReadOn (feed : Feed) (piece : List ℕ) : Type 0 where
  pub good : feed.reader.place ≢ None
  pub ends : ¬ HasNone is_line_end piece

-- the last line is read: no line was bad, and bytes of one are kept
pub record MayReadLast (feed : Feed) : Type 0 where
  pub good : feed.reader.place ≢ None
  pub kept : feed.rest ≢ []
