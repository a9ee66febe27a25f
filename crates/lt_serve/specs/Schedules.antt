-- In which order a simulation makes the enabled moves.
use Rattle.std.specs.Prelude.{◌≡◌, ℕ, List, [], ◌∷◌, Some}
use Rattle.lt_modes.specs.Script.{ScriptData}
use Rattle.lt_spec.specs.World.{Logged, World, start, after, logged}
use Rattle.lt_spec.specs.FixedOrder.{Turn, pick, count_turns}
use Rattle.lt_gen.specs.Generator.{draw_of}
use Rattle.lt_serve.specs.declared.schedule.Schedule.{Schedule}
use Rattle.lt_serve.specs.declared.schedule.Schedule.TheVariants.{First, Drawn}

-- the place of the next move among so many, and the schedule after it
abbrev pub scheduled : Schedule → ℕ → ℕ × Schedule
scheduled First count = (0, First)
scheduled (Drawn numbers) count = ((draw_of count numbers).0, Drawn (draw_of count numbers).1)

-- the entry is that of the enabled move at this place
abbrev pub IsAt : ScriptData → World → ℕ → Logged → Type 0
IsAt script w k entry = (turn : Turn) × (pick script w k ≡ Some turn) × (entry ≡ logged script w turn.node turn.step)

-- each entry is that of the move whose place the schedule gives, from world w on
abbrev pub AreInOrderFrom : ScriptData → World → Schedule → List Logged → Type 0
AreInOrderFrom script w schedule [] = Unit {0}
AreInOrderFrom script w schedule (entry ∷ rest) =
    IsAt script w (scheduled schedule (count_turns script w)).0 entry
    × AreInOrderFrom script (after script w entry.made.stamp.node entry.made.step) (scheduled schedule (count_turns script w)).1 rest

-- each move of the run is the one whose place the schedule gives
abbrev pub AreInOrder : Schedule → ScriptData → List Logged → Type 0
AreInOrder schedule script run = AreInOrderFrom script (start script) schedule run
