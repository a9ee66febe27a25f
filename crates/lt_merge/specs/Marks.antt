-- How a run is stored: all events in one list, and for each move the place where its events begin.
use Rattle.std.specs.Prelude.{List, [], ◌∷◌, ℕ, zero, suc, ◌≤◌, ◌%◌, Bool, true, false, length, slice_range, Option, Some, None}
use Rattle.lt_modes.specs.declared.moves.Step.{Step}
use Rattle.lt_modes.specs.declared.moves.Step.TheVariants.{Act, Take}
use Rattle.lt_modes.specs.declared.moves.Move.{Move}
use Rattle.lt_modes.specs.declared.event.Event.{Event}
use Rattle.lt_spec.specs.World.{Logged}
use Rattle.lt_merge.specs.declared.run.Mark.{Mark}

-- a step, by whether it is a take, and by its client or sender
abbrev pub step_by : Bool → ℕ → Step
step_by true number = Take (number % 256)
step_by false number = Act number

-- the move that the mark stands for
abbrev pub move_by : Mark → Move
move_by mark = record { stamp = record { clock = mark.clock; node = mark.node }; step = step_by mark.takes mark.number }

-- where the events end that stand before these moves
abbrev pub events_before : List Mark → ℕ → ℕ
events_before [] count = count
events_before (mark ∷ later) count = mark.start

-- no move's events end before they begin
abbrev pub IsLaid : List Mark → ℕ → Type 0
IsLaid [] count = Unit {0}
IsLaid (mark ∷ later) count = (mark.start ≤ events_before later count) × IsLaid later count

-- the moves, each with its part of the events
abbrev pub entries_of : List Mark → List Event → List Logged
entries_of [] events = []
entries_of (mark ∷ later) events =
    record { made = move_by mark; events = slice_range events mark.start (events_before later (length events)) } ∷ entries_of later events

-- where the events of the move at place k begin and end
abbrev pub events_bounds : List Mark → ℕ → ℕ → Option (ℕ × ℕ)
events_bounds [] count k = None
events_bounds (mark ∷ later) count zero = Some (mark.start, events_before later count)
events_bounds (mark ∷ later) count (suc k) = events_bounds later count k
