-- Each world of a run has the token's paths, so one token of each set.
use Rattle.std.proofs.Common.{ℕ, zero, suc, ◌<◌, List, [], ◌∷◌, take, subst, ◌≡◌, arith, sym, ◌∙◌, ◌++◌, refl, Contains}
use Rattle.std.proofs.lemmas.List.Elements.{All-contains, All-nil}
use Rattle.lt_modes.specs.Script.{ScriptData}
use Rattle.lt_modes.specs.declared.ask.Ask.{Ask}
use Rattle.lt_modes.specs.State.{times_in}
use Rattle.lt_lists.proofs.Sums.{sum_below-some, sum_below-change, sum_below-none}
use Rattle.lt_lists.proofs.Members.{none_in}
use Rattle.lt_spec.specs.World.{Logged, World, start, after, after_run, IsRunFrom, world_after, IsMove}
use Rattle.lt_spec.specs.Facts.{state_at, place_count}
use Rattle.lt_law_accounts.proofs.Asks.{times_in-some, times_in-found, times_in-none, times_in-once}
use Rattle.lt_model.specs.Invariant.{Paths, IsMadeBy, AsksStand}
use Rattle.lt_model.specs.Laws.{PathsKept, PathsInRuns, OneToken, StandingInRuns, StandsOnce, OnePlace}
use Rattle.lt_model.proofs.StartKept.{paths_start, places_start}
use Rattle.lt_model.proofs.PathsMove.{move_kept}
use Rattle.lt_model.proofs.StandingMove.{standing_kept}

pub paths_kept : PathsKept
paths_kept = move_kept

run_kept : (script : ScriptData) (s : ℕ) → 0 < script.nodes → (run : List Logged) (w : World) → Paths script w s
    → IsRunFrom script w run → (k : ℕ) → Paths script (after_run script w (take k run)) s
run_kept script s some run w h is_run zero = h
run_kept script s some [] w h is_run (suc k) = h
run_kept script s some (entry ∷ rest) w h is_run (suc k) =
    let q = entry.made.stamp.node in
    run_kept script s some rest (after script w q entry.made.step) (move_kept script w s some h q entry.made.step is_run.0.enabled) is_run.1 k

pub paths_in_runs : PathsInRuns
paths_in_runs script run some is_run k s = run_kept script s some run (start script) (paths_start script s some) is_run k

pub one_token : OneToken
one_token script run some is_run k s = (paths_in_runs script run some is_run k s).one_token

-- In each world of a run each unanswered ask stands in one place.

standing_start : (script : ScriptData) (s : ℕ) → AsksStand script (start script) s
standing_start script s = record {
  places = record { once = λ ask. places_start script s ask; home = λ x ask h c. none_in c.1 c.3.among };
  own = λ x below. All-nil _;
  apart = λ x below. λ i j d before within. absurd (omega (arith, within));
}

run_standing : (script : ScriptData) (s : ℕ) → 0 < script.nodes → (run : List Logged) (w : World) → Paths script w s → AsksStand script w s
    → IsRunFrom script w run → (k : ℕ) → AsksStand script (after_run script w (take k run)) s
run_standing script s some run w paths h is_run zero = h
run_standing script s some [] w paths h is_run (suc k) = h
run_standing script s some (entry ∷ rest) w paths h is_run (suc k) =
    let q = entry.made.stamp.node in
    let step = entry.made.step in
    run_standing script s some rest (after script w q step) (move_kept script w s some paths q step is_run.0.enabled)
    (standing_kept script w s some paths h q step is_run.0.enabled) is_run.1 k

pub standing_in_runs : StandingInRuns
standing_in_runs script run some is_run k s = run_standing script s some run (start script) (paths_start script s some) (standing_start script s) is_run k

-- an unanswered ask of a world in which asks stand once
pub one_place_of : (script : ScriptData) (w : World) (s x : ℕ) (ask : Ask) → AsksStand script w s → x < script.nodes
    → Contains (state_at w s x).pending ask → place_count script w s ask ≡ 1
one_place_of script w s x ask h below found =
    let own = λ (y : ℕ) (under : y < script.nodes) (there : Contains (state_at w s y).pending ask).
    (All-contains (IsMadeBy y (w.node y).clock) (state_at w s y).pending ask (h.own y under) there).0 in
    let change = sum_below-change script.nodes x (λ y. times_in ask (state_at w s y).pending) (λ y. 0) below
    (λ y under d. times_in-none ask (state_at w s y).pending (λ there. d (sym (own y under there) ∙ own x below found))) in
    omega (
      arith,
      h.places.once ask,
      change,
      sum_below-none script.nodes (λ y. 0) (λ y under. omega arith),
      times_in-some ask (state_at w s x).pending found,
      times_in-once ask (state_at w s x).pending (h.apart x below),
    )

pub one_place : OnePlace
one_place script run some is_run k s x ask below found =
    one_place_of script (world_after script (take k run)) s x ask (standing_in_runs script run some is_run k s) below found

pub stands_once : StandsOnce
stands_once script w s ask h some =
    let found = sum_below-some script.nodes (λ x. times_in ask (state_at w s x).pending) (omega (arith, h.places.once ask, some)) in
    let there = times_in-found ask (state_at w s found.0).pending (omega (arith, found.2)) in
    let own = (elements found.0 found.1 there).0 in (
      omega (arith, own, found.1),
      subst (λ (x : ℕ). Contains (state_at w s x).pending ask) (sym own) there,
      one_place_of script w s found.0 ask h found.1 there,
    )
  where
    elements : (x : ℕ) → x < script.nodes → Contains (state_at w s x).pending ask → IsMadeBy x (w.node x).clock ask
    elements x below c = All-contains (IsMadeBy x (w.node x).clock) (state_at w s x).pending ask (h.own x below) c

-- A run and one move more.

pub after_run-push : (script : ScriptData) (w : World) (run : List Logged) (entry : Logged)
    → after_run script w (run ++ entry ∷ []) ≡ after script (after_run script w run) entry.made.stamp.node entry.made.step
after_run-push script w [] entry = refl
after_run-push script w (e ∷ rest) entry = after_run-push script (after script w e.made.stamp.node e.made.step) rest entry

pub IsRunFrom-push : (script : ScriptData) (w : World) (run : List Logged) (entry : Logged)
    → IsRunFrom script w run → IsMove script (after_run script w run) entry → IsRunFrom script w (run ++ entry ∷ [])
IsRunFrom-push script w [] entry h move = (move, tt)
IsRunFrom-push script w (e ∷ rest) entry h move =
    (h.0, IsRunFrom-push script (after script w e.made.stamp.node e.made.step) rest entry h.1 move)
