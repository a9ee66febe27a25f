-- One move more, in the order of a simulation.
use Rattle.std.proofs.Common.{◌≡◌, ◌∙◌, ℕ, suc, List, [], ◌∷◌, ◌++◌, Option, Some, None, length, refl, sym, ap, option_map}
use Rattle.lt_modes.specs.Script.{ScriptData}
use Rattle.lt_spec.specs.World.{Logged, World, after, after_run, logged}
use Rattle.lt_spec.specs.FixedOrder.{Turn, pick, count_turns, first_run_from}
use Rattle.lt_law_journals.proofs.Places.{stamp_node}
use Rattle.lt_world.specs.declared.choice.Choice.{Choice}
use Rattle.lt_world.specs.Choice.{choice_of}
use Rattle.lt_serve.specs.declared.schedule.Schedule.{Schedule}
use Rattle.lt_serve.specs.declared.schedule.Schedule.TheVariants.{First}
use Rattle.lt_serve.specs.Schedules.{scheduled, IsAt, AreInOrderFrom}

-- the schedule after these moves
abbrev pub schedule_after : ScriptData → World → Schedule → List Logged → Schedule
schedule_after script w schedule [] = schedule
schedule_after script w schedule (entry ∷ rest) =
    schedule_after script (after script w entry.made.stamp.node entry.made.step) (scheduled schedule (count_turns script w)).1 rest

pub one_more : (script : ScriptData) (w : World) (schedule : Schedule) (run : List Logged) (entry : Logged) → AreInOrderFrom script w schedule run
    → IsAt script (after_run script w run) (scheduled (schedule_after script w schedule run) (count_turns script (after_run script w run))).0 entry
    → AreInOrderFrom script w schedule (run ++ entry ∷ [])
one_more script w schedule [] entry h at = (at, tt)
one_more script w schedule (first ∷ rest) entry h at =
    (h.0, one_more script (after script w first.made.stamp.node first.made.step) (scheduled schedule (count_turns script w)).1 rest entry h.1 at)

pub schedule_more : (script : ScriptData) (w : World) (schedule : Schedule) (run : List Logged) (entry : Logged)
    → schedule_after script w schedule (run ++ entry ∷ [])
    ≡ (scheduled (schedule_after script w schedule run) (count_turns script (after_run script w run))).1
schedule_more script w schedule [] entry = refl
schedule_more script w schedule (first ∷ rest) entry =
    schedule_more script (after script w first.made.stamp.node first.made.step) (scheduled schedule (count_turns script w)).1 rest entry

-- the move that was picked, as an entry
pub picked : (script : ScriptData) (w : World) (place : ℕ) (choice : Choice) → Some choice ≡ option_map choice_of (pick script w place)
    → IsAt script w place (logged script w choice.node choice.step)
picked script w place choice e = by_turn (pick script w place) refl e
  where
    by_turn : (found : Option Turn) → pick script w place ≡ found → Some choice ≡ option_map choice_of found
        → IsAt script w place (logged script w choice.node choice.step)
    by_turn None at same = cc
    by_turn (Some turn) at same =
        let it : choice ≡ choice_of turn = cc in
        (turn, at, ap (λ (c : Choice). logged script w c.node c.step) it)

first_more : (script : ScriptData) (w : World) (turn : Turn) (rest : List Logged) → pick script w 0 ≡ Some turn
    → rest ≡ first_run_from (length rest) script (after script w turn.node turn.step)
    → logged script w turn.node turn.step ∷ rest ≡ first_run_from (suc (length rest)) script w
first_more script w turn rest e h = rw e (ap (λ (more : List Logged). logged script w turn.node turn.step ∷ more) h)

-- always the first one is the run of the fixed order
pub first_from : (script : ScriptData) (w : World) (run : List Logged) → AreInOrderFrom script w First run
    → run ≡ first_run_from (length run) script w
first_from script w [] h = refl
first_from script w (entry ∷ rest) h =
    let turn : Turn = h.0.0 in
    let made : entry ≡ logged script w turn.node turn.step = h.0.2 in
    let node : entry.made.stamp.node ≡ turn.node = ap (λ (e : Logged). e.made.stamp.node) made ∙ stamp_node w turn.node turn.step in
    let step : entry.made.step ≡ turn.step = ap (λ (e : Logged). e.made.step) made in
    let later : rest ≡ first_run_from (length rest) script (after script w turn.node turn.step) =
    rw (sym node, sym step) (first_from script (after script w entry.made.stamp.node entry.made.step) rest h.1) in
    ap (λ (e : Logged). e ∷ rest) made ∙ first_more script w turn rest h.0.1 later
