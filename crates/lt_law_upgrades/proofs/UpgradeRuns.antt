-- Each move of a run of an upgrading script keeps the desk where a lock that excludes itself is, and what clients may hold.
use Rattle.std.proofs.Common.{◌≡◌, ℕ, ◌<◌, inl, inr, List, [], length, Some, None, Bool, true, false, refl, sym, ap, subst, arith, take, ◌∙◌, ◌⊎◌, ◌==◌, if◌then◌else◌, filter_map, IsTrue, Contains, eq-eqb}
use Rattle.std.proofs.lemmas.Bool.{cases_eq, false≢true}
use Rattle.std.proofs.lemmas.List.{length-replicate}
use Rattle.std.proofs.lemmas.List.Elements.{Contains-append_right}
use Rattle.lt_modes.specs.declared.mode.Mode.{Mode}
use Rattle.lt_modes.specs.declared.moves.Step.{Step}
use Rattle.lt_modes.specs.Modes.{has, held_modes}
use Rattle.lt_modes.specs.State.{first_entry, first_desk}
use Rattle.lt_modes.specs.Script.{ScriptData}
use Rattle.lt_modes.proofs.ModeAlgebra.{none_in_none}
use Rattle.lt_lists.proofs.Members.{filter_map-at}
use Rattle.lt_lists.proofs.Puts.{put-same, put-other}
use Rattle.lt_spec.specs.Facts.{state_at, OnWay, DeskIs}
use Rattle.lt_spec.specs.NodeMove.{home, NodeState, IsWhole}
use Rattle.lt_spec.specs.World.{Logged, World, start, is_enabled, opened, letter_for, node_move, after, world_after, IsRun}
use Rattle.lt_model.specs.Homes.{Homes}
use Rattle.lt_model.specs.Invariant.{WorldInvariant}
use Rattle.lt_model.proofs.NodeEffects.{after_node}
use Rattle.lt_law_invariant.proofs.HeldUpMoves.{other_state}
use Rattle.lt_law_invariant.proofs.SoundStates.{kept_stays}
use Rattle.lt_law_lines.proofs.OwnerRuns.{along_runs}
use Rattle.lt_law_upgrades.specs.UpgradeLaws.{IsUpgrading}
use Rattle.lt_law_upgrades.proofs.DeskStays.{HasEntries, IsSettled, HasLeft}
use Rattle.lt_law_upgrades.proofs.UpgradeWithin.{IsWithin}
use Rattle.lt_law_upgrades.proofs.UpgradeReady.{IsSteadfast}
use Rattle.lt_law_upgrades.proofs.UpgradeMoves.{Moved, moved}

-- the token can't have left
left_never : (script : ScriptData) (w : World) (q : ℕ) (step : Step) (s : ℕ) → WorldInvariant script (after script w q step) → q < script.nodes → s < length script.sets
    → HasLeft s q (node_move script w q step).posts → ⊥
left_never script w q step s kept below under left =
    ((kept.sets s under).known None left.desk there).clear q v below to (λ e. left.away (sym e)) left.own left.own_there (left.theirs, left.conflict, left.theirs_there)
  where
    later : World
    later = after script w q step

    v : ℕ
    v = left.post.to

    among : Contains (later.mail q v) left.post.letter
    among = Contains-append_right ((opened w q step).mail q v) (if q == q then filter_map (letter_for v) (node_move script w q step).posts else []) left.post.letter
        (subst (λ (b : Bool). Contains (if b then filter_map (letter_for v) (node_move script w q step).posts else []) left.post.letter) (sym (eq-eqb q q refl))
        (filter_map-at (letter_for v) (node_move script w q step).posts left.post left.post.letter left.among
        (ap (λ (b : Bool). if b then Some left.post.letter else None) (eq-eqb v v refl))))

    on : OnWay later s q v left.post.letter
    on = record { among = among; set = left.set }

    to : v < script.nodes
    to = ((kept.sets s under).paths.letters q v left.post.letter below on).to

    there : DeskIs script later s None left.desk
    there = (v, to, (q, left.post.letter, below, on, left.body))

steadfast_after : (script : ScriptData) (w : World) (rank : ℕ → ℕ) (q : ℕ) (step : Step) → IsWhole script → WorldInvariant script w → Homes script w → IsUpgrading script rank → IsTrue (is_enabled script w q step)
    → IsSteadfast script w → IsSteadfast script (after script w q step)
steadfast_after script w rank q step whole kept homes upgrading enabled h = record {
  within = λ c known. elim (cases_eq (home script c) q) [
    | inl e ↦ subst (λ (n : NodeState). IsWithin script n c) (sym (ap (after script w q step).node e ∙ at_q)) (made.within c known e)
    | inr d ↦ subst (λ (n : NodeState). IsWithin script n c)
        (sym (after_node script w q step (home script c) ∙ put-other w.node q (node_move script w q step).node (home script c) d)) (h.within c known)
  ];
  keeps = λ s x under below. elim (cases_eq x q) [
    | inl e ↦ subst (λ (y : ℕ). IsSettled script.nodes (state_at (after script w q step) s y)) (sym e)
        (subst (λ (n : NodeState). IsSettled script.nodes (n.set s)) (sym at_q) (settled s under (subst (λ (y : ℕ). y < script.nodes) e below) (made.desk s under)))
    | inr d ↦ subst (IsSettled script.nodes) (sym (other_state script w s q step x d)) (h.keeps s x under below)
  ];
}
  where
    made : Moved script q (node_move script w q step)
    made = moved script w rank q step whole kept homes upgrading h enabled

    at_q : (after script w q step).node q ≡ (node_move script w q step).node
    at_q = after_node script w q step q ∙ put-same w.node q (node_move script w q step).node

    settled : (s : ℕ) → s < length script.sets → q < script.nodes → IsSettled script.nodes ((node_move script w q step).node.set s) ⊎ HasLeft s q (node_move script w q step).posts
        → IsSettled script.nodes ((node_move script w q step).node.set s)
    settled s under below (inl keeps) = keeps
    settled s under below (inr left) = absurd (left_never script w q step s (kept_stays script w q step whole kept enabled) below under left)

steadfast_first : (script : ScriptData) → IsSteadfast script (start script)
steadfast_first script = record {
  within = λ c known. record {
    counts = λ s mode under. omega arith;
    few = λ s under. omega arith;
    asked = λ s ask under there live own. absurd (omega (arith, there.1));
    marks = λ s under gone. absurd (false≢true gone);
  };
  keeps = λ s x under below. record {
    keeps = record {
      entries = by_node (x == 0);
      desk = λ mode there taking. absurd (none mode there);
      fresh = λ ask there none. absurd (omega (arith, there.1));
      next = λ ask g there e. absurd (omega (arith, there.1));
    };
    live = λ ask g there e. absurd (omega (arith, there.1));
  };
}
  where
    none : (mode : Mode) → IsTrue (has mode (held_modes [])) → ⊥
    none mode there = none_in_none mode there

    by_node : (first : Bool) → HasEntries script.nodes (if first then Some (first_desk script.nodes) else None)
    by_node true = length-replicate script.nodes first_entry
    by_node false = tt

pub steadfast_in_runs : (script : ScriptData) (run : List Logged) (rank : ℕ → ℕ) → IsWhole script → IsRun script run → IsUpgrading script rank → (k : ℕ) → IsSteadfast script (world_after script (take k run))
steadfast_in_runs script run rank whole is_run upgrading k =
    along_runs script (λ lines w. IsSteadfast script w) whole (λ w lines q step kept homes enabled h. steadfast_after script w rank q step whole kept homes upgrading enabled h)
    (steadfast_first script) run is_run k
