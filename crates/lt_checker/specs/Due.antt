-- Which lines must come after the last move of a run, before any further move.
use Rattle.std.specs.Prelude.{ℕ, ◌-◌, List, [], ◌++◌, unwrap_or, length, drop}
use Rattle.lt_modes.specs.Script.{ScriptData}
use Rattle.lt_modes.specs.declared.event.Event.{Event}
use Rattle.lt_spec.specs.World.{Logged}
use Rattle.lt_merge.specs.Merging.{events_at}
use Rattle.lt_journal.specs.declared.line.Line.{Line}
use Rattle.lt_journal.specs.RunLines.{event_lines}

-- the events of the last move; none where no move was made
abbrev pub last_events : List Logged → List Event
last_events run = unwrap_or (events_at run (length run - 1)) []

-- the lines of the last move's events without the first ones, of which so many were told, and then these
abbrev pub due_lines : ScriptData → List Logged → ℕ → List Line → List Line
due_lines script run told later = event_lines script.version (drop told (last_events run)) ++ later
