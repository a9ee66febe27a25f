-- A run and one enabled move more.
use Rattle.std.proofs.Common.{◌≡◌, ℕ, ◌<◌, List, [], ◌∷◌, length, take, refl, sym, ap, subst, ◌∙◌, arith, IsTrue, All, Contains, ◌==◌, if◌then◌else◌, filter_map, eq-eqb, take_all}
use Rattle.std.proofs.lemmas.List.Elements.{Contains-append_right}
use Rattle.lt_modes.specs.declared.moves.Step.{Step}
use Rattle.lt_modes.specs.declared.moves.Step.TheVariants.{Act, Take}
use Rattle.lt_modes.specs.Script.{ScriptData}
use Rattle.lt_modes.specs.State.{Letter, Post}
use Rattle.lt_lists.proofs.Members.{all_of, filter_map-at}
use Rattle.lt_spec.specs.World.{Logged, World, world_after, is_enabled, logged, after, opened, node_move, front_stamp, move_stamp, letter_for, IsRun}
use Rattle.lt_spec.specs.NodeMove.{NodeState}
use Rattle.lt_spec.specs.World as runs
use Rattle.lt_world.specs.Fields.{run_with}
use Rattle.lt_model.specs.Invariant.{Paths}
use Rattle.lt_model.proofs.Runs.{after_run-push, IsRunFrom-push, paths_in_runs}

front_node : (q : ℕ) (n : NodeState) (letters : List Letter) → (front_stamp q n letters).node ≡ q
front_node q n [] = refl
front_node q n (letter ∷ rest) = refl

pub stamp_node : (w : World) (q : ℕ) (step : Step) → (move_stamp w q step).node ≡ q
stamp_node w q (Act client) = refl
stamp_node w q (Take p) = front_node q (w.node q) (w.mail p q)

pub longer_is_run : (script : ScriptData) (run : List Logged) (q : ℕ) (step : Step) → IsRun script run
    → IsTrue (is_enabled script (world_after script run) q step) → IsRun script (run_with script run q step)
longer_is_run script run q step is_run enabled =
    IsRunFrom-push script (runs.start script) run (logged script (world_after script run) q step) is_run
    (record {
      enabled = subst (λ (x : ℕ). IsTrue (is_enabled script (world_after script run) x step)) (sym (stamp_node (world_after script run) q step)) enabled;
      made = ap (λ (x : ℕ). logged script (world_after script run) x step) (sym (stamp_node (world_after script run) q step));
    })

pub longer_world : (script : ScriptData) (run : List Logged) (q : ℕ) (step : Step)
    → world_after script (run_with script run q step) ≡ after script (world_after script run) q step
longer_world script run q step =
    after_run-push script (runs.start script) run (logged script (world_after script run) q step)
    ∙ ap (λ (x : ℕ). after script (world_after script run) x step) (stamp_node (world_after script run) q step)

pub whole_run : (run : List Logged) → take (length run) run ≡ run
whole_run run = take_all (length run) run (omega arith)

paths : (script : ScriptData) (run : List Logged) (s : ℕ) → 0 < script.nodes → IsRun script run → Paths script (world_after script run) s
paths script run s some is_run =
    subst (λ (r : List Logged). Paths script (world_after script r) s) (whole_run run) (paths_in_runs script run some is_run (length run) s)

-- no node sends itself a letter
pub own_mail : (script : ScriptData) (run : List Logged) (q : ℕ) → 0 < script.nodes → IsRun script run → q < script.nodes
    → (world_after script run).mail q q ≡ []
own_mail script run q some is_run below = none ((world_after script run).mail q q) (λ letter on.
    ((paths script run letter.set some is_run).letters q q letter below (record { among = on; set = refl })).other refl)
  where
    none : (letters : List Letter) → ((letter : Letter) → Contains letters letter → ⊥) → letters ≡ []
    none [] h = refl
    none (letter ∷ rest) h = absurd (h letter (0, omega arith, refl))

-- the letters of a move go to nodes of the script
pub posts_inside : (script : ScriptData) (run : List Logged) (q : ℕ) (step : Step) → 0 < script.nodes → IsRun script run → q < script.nodes
    → IsTrue (is_enabled script (world_after script run) q step)
    → All (λ (post : Post). post.to < script.nodes) (node_move script (world_after script run) q step).posts
posts_inside script run q step some is_run below enabled = all_of _ posts (λ post on.
    let later = paths script (run_with script run q step) post.letter.set some (longer_is_run script run q step is_run enabled) in
    (later.letters q post.to post.letter below (record { among = there post on; set = refl })).to)
  where
    posts : List Post
    posts = (node_move script (world_after script run) q step).posts

    there : (post : Post) → Contains posts post → Contains ((world_after script (run_with script run q step)).mail q post.to) post.letter
    there post on =
        let sent : Contains (if q == q then filter_map (letter_for post.to) posts else []) post.letter =
        rw (eq-eqb q q refl) (filter_map-at (letter_for post.to) posts post post.letter on (rw (eq-eqb post.to post.to refl) refl)) in
        subst (λ (w : World). Contains (w.mail q post.to) post.letter) (sym (longer_world script run q step))
        (Contains-append_right ((opened (world_after script run) q step).mail q post.to) _ post.letter sent)
