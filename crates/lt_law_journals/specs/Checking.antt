-- Which lines are the journal of a run of a script, and which line is the first bad one. A line stands here without its line end.
use Rattle.std.specs.Prelude.{ℕ, suc, List, [], ◌∷◌, ◌++◌, Bool, false, ◌&&◌, ◌==◌, fold, Option, Some, None, Result, Ok, Err, if◌then◌else◌, map, ◌≡◌, ◌<◌, ◌≤◌, ◌+◌, take, length, IsTrue, ◌⊎◌, drop, position, bytes_eq}
use Rattle.lt_modes.specs.declared.moves.Step.{Step}
use Rattle.lt_modes.specs.Script.{ScriptData}
use Rattle.lt_spec.specs.World.{Logged, world_after, is_enabled, is_at_rest, move_stamp, logged, IsRun}
use Rattle.lt_text.specs.Text.{spaced, lines, is_line_end, is_filled, without_return}
use Rattle.lt_journal.specs.declared.line.Line.{Line}
use Rattle.lt_journal.specs.declared.line.Line.TheVariants.{Version2, Version3, Move as MoveLine, Event as EventLine, Held, Waiting, Owner, End, Cut, Bad}
use Rattle.lt_journal.specs.Grammar.{read_line}
use Rattle.lt_journal.specs.RunLines.{line_words, first_lines, event_lines, closing_lines, text_of, moves_lines}
use Rattle.lt_journal.specs.Split.{is_journal_line, input_parts}

-- how the line is written
abbrev pub written : ScriptData → Line → List ℕ
written script x = spaced (line_words script x)

-- the lines that follow a run's moves: at rest its closing lines, and else none yet
abbrev pub closing_at_rest : ScriptData → List Logged → List Line
closing_at_rest script run = if is_at_rest script (world_after script run) then closing_lines script run None else []

-- where a reader is: the moves so far, and the lines that must come next, before any further move
pub record Place : Type 0 where
  pub run : List Logged
  pub due : List Line

-- before the first line: `version 2` is due in version 2, and at rest the closing lines
abbrev pub first_place : ScriptData → Place
first_place script = record { run = []; due = first_lines script.version ++ closing_at_rest script [] }

-- after the line of a move: its event lines are due, and at rest the closing lines after them
abbrev pub moved : ScriptData → List Logged → Logged → Place
moved script run entry = record {
  run = run ++ entry ∷ [];
  due = event_lines script.version entry.events ++ closing_at_rest script (run ++ entry ∷ []);
}

-- the move is enabled after the run, and the clock is its own
abbrev pub is_next : ScriptData → List Logged → ℕ → ℕ → Step → Bool
is_next script run clock node step =
    is_enabled script (world_after script run) node step && clock == (move_stamp (world_after script run) node step).clock

-- after a line that says this, where no line is due: it must be the line of a next move. At rest there is none
abbrev pub by_move : ScriptData → List Logged → Line → Option Place
by_move script run (MoveLine clock node step) =
    if is_next script run clock node step then Some (moved script run (logged script (world_after script run) node step)) else None
by_move script run Version2 = None
by_move script run Version3 = None
by_move script run (EventLine event) = None
by_move script run (Held client set mode count) = None
by_move script run (Waiting client set mode) = None
by_move script run (Owner set node epoch) = None
by_move script run (End count) = None
by_move script run (Cut node) = None
by_move script run Bad = None

-- after this line: the first line that is due, word for word, or where none is due the line of a next move
abbrev pub by_due : ScriptData → List Logged → List Line → List ℕ → Option Place
by_due script run [] line = by_move script run (read_line script line)
by_due script run (x ∷ due) line = if bytes_eq line (written script x) then Some (record { run = run; due = due }) else None

-- where the reader is after this line, if the line is not bad there
abbrev pub place_after : ScriptData → Place → List ℕ → Option Place
place_after script place line = by_due script place.run place.due line

-- a reader: its place, if no line was bad, and the number of lines before the first bad one
pub record Reader : Type 0 where
  pub place : Option Place
  pub good : ℕ

abbrev pub first_reader : ScriptData → Reader
first_reader script = record { place = Some (first_place script); good = 0 }

-- the reader after a line that led to this place, or was bad
abbrev pub led_to : Reader → Option Place → Reader
led_to reader None = record reader { place = None }
led_to reader (Some place) = record { place = Some place; good = suc reader.good }

abbrev pub read_at : ScriptData → Reader → List ℕ → Option Place → Reader
read_at script reader line None = reader
read_at script reader line (Some place) = led_to reader (place_after script place line)

-- the reader after one line more; after a bad line no other counts
abbrev pub read_on : ScriptData → Reader → List ℕ → Reader
read_on script reader line = read_at script reader line reader.place

-- the reader after these lines
abbrev pub reader_after : ScriptData → List (List ℕ) → Reader
reader_after script lines = fold (read_on script) (first_reader script) lines

-- no line is missing: none is due, and the run is at rest
abbrev pub is_complete : ScriptData → List Logged → List Line → Bool
is_complete script run [] = is_at_rest script (world_after script run)
is_complete script run (x ∷ due) = false

abbrev pub verdict_at : ScriptData → ℕ → Option Place → Result (List Logged) ℕ
verdict_at script good None = Err (suc good)
verdict_at script good (Some place) = if is_complete script place.run place.due then Ok place.run else Err (suc good)

-- the run, where all is there; else the number of the first bad line, which comes after the good ones: it is bad, or missing
abbrev pub verdict : ScriptData → Reader → Result (List Logged) ℕ
verdict script reader = verdict_at script reader.good reader.place

-- the run whose journal these lines are, or the number of the first bad line
abbrev pub checked : ScriptData → List (List ℕ) → Result (List Logged) ℕ
checked script lines = verdict script (reader_after script lines)

-- The same over what the lines say, as a journal is kept once it was read.

-- the run that a journal of these lines tells, or the number of the first bad line: each stands for how it is written,
-- and one that says nothing for the empty line, which is bad too
abbrev pub checked_said : ScriptData → List Line → Result (List Logged) ℕ
checked_said script journal = checked script (map (written script) journal)

-- What the laws of checking say of runs and their journals.

-- a run of the script that ends at rest
pub record IsFinished (script : ScriptData) (run : List Logged) : Type 0 where
  pub is_run : IsRun script run
  pub at_rest : IsTrue (is_at_rest script (world_after script run))

-- the lines of the text of a run that ends at rest
abbrev pub journal_lines : ScriptData → List Logged → List (List ℕ)
journal_lines script run = lines (text_of script run None)

-- in version 2 the line `version 2`, the lines of the moves so far, and at rest the closing lines
abbrev pub lines_so_far : ScriptData → List Logged → List Line
lines_so_far script run = first_lines script.version ++ (moves_lines script.version run ++ closing_at_rest script run)

-- the place is that of a reader who has read these lines: its run is one of the script, and its lines are those that were read and then those that are due
pub record BeginsWith (script : ScriptData) (read : List (List ℕ)) (place : Place) : Type 0 where
  pub is_run : IsRun script place.run
  pub told : List Line
  pub parts : told ++ place.due ≡ lines_so_far script place.run
  pub lines : read ≡ map (written script) told

-- the place is one that a reader has come to
abbrev pub HasCome : ScriptData → Place → Type 0
HasCome script place = (read : List (List ℕ)) × BeginsWith script read place

-- the lines are the first ones of those of a run's moves, and of the closing lines where it is at rest
abbrev pub IsBeginning : ScriptData → List (List ℕ) → Type 0
IsBeginning script read = (place : Place) × BeginsWith script read place

-- with these lines the journal of a finished run begins
abbrev pub BeginsJournal : ScriptData → List (List ℕ) → Type 0
BeginsJournal script read =
    (run : List Logged) × (more : List (List ℕ)) × IsFinished script run × (journal_lines script run ≡ read ++ more)

-- line k, counted from 1, is the first bad one: a line, or the one that is missing after the last
pub record IsFirstBad (script : ScriptData) (all : List (List ℕ)) (k : ℕ) : Type 0 where
  pub some : 0 < k
  pub within : k ≤ length all + 1
  -- with the lines before it a journal begins, and with it none
  pub before : (j : ℕ) → j < k → BeginsJournal script (take j all)
  pub not_with : k ≤ length all → BeginsJournal script (take k all) → ⊥
  -- where it is missing, the lines are no journal
  pub missing : k ≡ length all + 1 → (run : List Logged) → IsFinished script run → journal_lines script run ≡ all → ⊥

-- what is known of the journals that begin with these lines, after which the reader is here
pub record IsContinued (script : ScriptData) (read : List (List ℕ)) (place : Place) : Type 0 where
  -- each of them is that of a finished run that begins with the moves so far
  pub only : (more : List (List ℕ)) (run : List Logged) → checked script (read ++ more) ≡ Ok run
      → IsFinished script run × ((later : List Logged) × (run ≡ place.run ++ later))
  -- and each such run has one
  pub each : (later : List Logged) → IsFinished script (place.run ++ later)
      → (more : List (List ℕ)) × (checked script (read ++ more) ≡ Ok (place.run ++ later))

-- A journal that is checked byte by byte, with no more kept than a line that can be good.

-- a reader, and the first bytes of the line that isn't whole yet
pub record Feed : Type 0 where
  pub reader : Reader
  pub rest : List ℕ

abbrev pub new_feed : ScriptData → Feed
new_feed script = record { reader = first_reader script; rest = [] }

-- the line is whole
abbrev pub line_ended : ScriptData → Feed → Feed
line_ended script feed = record { reader = read_on script feed.reader (without_return feed.rest); rest = [] }

-- after one byte more: of a line no more than 201 bytes are kept, which no good line fills
abbrev pub fed : ScriptData → Feed → ℕ → Feed
fed script feed byte = if is_line_end byte then line_ended script feed else record feed { rest = take 201 (feed.rest ++ byte ∷ []) }

-- after all bytes of a piece
abbrev pub fed_piece : ScriptData → Feed → List ℕ → Feed
fed_piece script feed piece = fold (fed script) feed piece

-- a last line may lack its line end
abbrev pub last_ended : ScriptData → Feed → Feed
last_ended script feed = if is_filled feed.rest then line_ended script feed else feed

-- the answer at the end of the bytes
abbrev pub ended : ScriptData → Feed → Result (List Logged) ℕ
ended script feed = verdict script (last_ended script feed).reader

-- Where the journal of an input is, and by which number its first bad line is named.

abbrev pub before_place : List (List ℕ) → Option ℕ → List (List ℕ)
before_place all None = all
before_place all (Some k) = take k all

-- the lines of the script: those before the first line whose only word is `journal`
abbrev pub script_in : List (List ℕ) → List (List ℕ)
script_in all = before_place all (position is_journal_line all)

abbrev pub after_place : List (List ℕ) → Option ℕ → List (List ℕ)
after_place all None = []
after_place all (Some k) = drop (k + 1) all

-- the lines of the journal: those after the first line whose only word is `journal`
abbrev pub journal_in : List (List ℕ) → List (List ℕ)
journal_in all = after_place all (position is_journal_line all)

abbrev pub count_before : List (List ℕ) → Option ℕ → ℕ
count_before all None = length all
count_before all (Some k) = k + 1

-- the number of lines before the journal
abbrev pub lines_before : List (List ℕ) → ℕ
lines_before all = count_before all (position is_journal_line all)

-- a bad line by its number among more lines
abbrev pub counted_from : ℕ → Result (List Logged) ℕ → Result (List Logged) ℕ
counted_from before (Ok run) = Ok run
counted_from before (Err k) = Err (before + k)

-- the run that the journal in an input of these lines tells, or the number of the first bad line in the whole input
abbrev pub checked_input : ScriptData → List (List ℕ) → Result (List Logged) ℕ
checked_input script all = counted_from (lines_before all) (checked script (journal_in all))

-- this line of an input of these bytes, counted from its first, is the first bad one of the journal in it
abbrev pub IsFirstBadIn : ScriptData → ℕ → List ℕ → Type 0
IsFirstBadIn script line bytes =
    (k : ℕ) × (line ≡ (input_parts bytes).lines + k) × IsFirstBad script (lines (drop (input_parts bytes).journal bytes)) k

-- a line feed is the last byte
abbrev pub EndsInLineFeed : List ℕ → Type 0
EndsInLineFeed bytes = (front : List ℕ) × (bytes ≡ front ++ 10 ∷ [])

-- a new line begins after these bytes
abbrev pub EndsLine : List ℕ → Type 0
EndsLine bytes = (bytes ≡ []) ⊎ EndsInLineFeed bytes

-- one of the lines is `journal`
abbrev pub HasJournal : List ℕ → Type 0
HasJournal bytes = (k : ℕ) × (position is_journal_line (lines bytes) ≡ Some k)

-- an input that begins with these bytes is cut where they are, whatever comes after them
abbrev pub IsSettled : List ℕ → Type 0
IsSettled bytes = (more : List ℕ) → input_parts (bytes ++ more) ≡ input_parts bytes
