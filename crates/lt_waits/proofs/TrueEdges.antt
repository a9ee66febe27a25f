-- What the lines of a run tell of a client that waits for another one.
use Rattle.std.proofs.Common.{◌≡◌, ◌∙◌, ℕ, ◌<◌, inl, inr, List, length, Some, None, Bool, true, false, not, refl, subst, ap, arith, ◌⊎◌, ◌&&◌, if◌then◌else◌, nat_lt, IsTrue, IsFalse, lt-ltb, take_all}
use Rattle.std.proofs.Math.Path.{fun_ext}
use Rattle.std.specs.List.{list_any}
use Rattle.std.proofs.lemmas.Bool.{or_cases, and_parts}
use Rattle.lt_modes.specs.declared.mode.Mode.{Mode}
use Rattle.lt_modes.specs.Modes.{count_of, conflicts, modes_in_order}
use Rattle.lt_modes.specs.Script.{ScriptData}
use Rattle.lt_spec.specs.Facts.{state_at}
use Rattle.lt_spec.specs.NodeMove.{home, IsWhole}
use Rattle.lt_spec.specs.Holdings.{Holding, holding, lines_of, wanted, holds_against, waits_behind, gave_up, is_behind_void, waits_for, waits_behind_void, WaitsFor}
use Rattle.lt_spec.specs.World.{Logged, World, world_after, IsRun}
use Rattle.lt_model.specs.Invariant.{LinesKept}
use Rattle.lt_law_lines.proofs.KeptLines.{lines_kept_in_runs}
use Rattle.lt_law_waiting.proofs.KeptAsks.{KeptAsk, LiveAsk, waits_kept, behind_kept}
use Rattle.lt_world.proofs.AgainstLemmas.{against_all}
use Rattle.lt_waits.specs.EdgeLaws.{IsTrueEdge, EdgesAreTold, IsVoidEdge, VoidEdgesAreTold}
use Rattle.lt_waits.specs.Reasons.{in_sets, is_barred}

kept_at_end : (script : ScriptData) (run : List Logged) → IsWhole script → IsRun script run → LinesKept script (lines_of run) (world_after script run)
kept_at_end script run whole is_run =
    subst (λ (r : List Logged). LinesKept script (lines_of r) (world_after script r)) (take_all (length run) run (omega arith)) (lines_kept_in_runs script run whole is_run (length run))

-- by the lines the other one holds such a lock exactly if its node says so
barred : (script : ScriptData) (run : List Logged) → LinesKept script (lines_of run) (world_after script run) → (client other : ℕ) (s : ℕ) (mode : Mode)
    → other < length script.clients → s < length script.sets
    → is_barred script (lines_of run) (Some (holding client s mode)) other ≡ holds_against script (world_after script run) s mode other
barred script run kept client other s mode known below =
    ap (λ (test : Mode → Bool). list_any test modes_in_order)
    (fun_ext (λ (m : Mode). ap (λ (count : ℕ). conflicts mode m && nat_lt 0 count) (kept.held other s m known below)))
    ∙ against_all (λ m. conflicts mode m && nat_lt 0 (count_of (state_at (world_after script run) s (home script other)).held other m))

not_true : (b : Bool) → not b ≡ true → b ≡ false
not_true true e = cc
not_true false e = refl

told_of : (script : ScriptData) (run : List Logged) → LinesKept script (lines_of run) (world_after script run) → (client other : ℕ)
    → client < length script.clients → other < length script.clients → waits_for script (world_after script run) client other ≡ true → IsTrueEdge script run client other
told_of script run kept client other known_client known_other e = record {
  want = want;
  want_is = ap (in_sets script) wanted_is ∙ ap (λ (t : Bool). if t then Some want else None) (lt-ltb found.set (length script.sets) found.in_sets);
  asks = (found.ask, found.there, found.own, refl, found.live);
  kept = by_kept (or_cases (holds_against script w found.set found.ask.mode other) (not (gave_up script w found.set other) && waits_behind script w found.set other found.ask.client) found.kept);
}
  where
    w : World
    w = world_after script run

    found : KeptAsk script w client other
    found = waits_kept script w client other e

    want : Holding
    want = holding client found.set found.ask.mode

    wanted_is : wanted client (lines_of run) ≡ Some want
    wanted_is = (kept.waits client found.set found.ask.mode known_client found.in_sets).1 (found.ask, found.there, found.own, refl, found.live)

    by_kept : (holds_against script w found.set found.ask.mode other ≡ true) ⊎ ((not (gave_up script w found.set other) && waits_behind script w found.set other found.ask.client) ≡ true)
        → IsTrue (is_barred script (lines_of run) (Some want) other) ⊎ (IsTrue (waits_behind script w want.set other client) × IsFalse (gave_up script w want.set other))
    by_kept (inl held) = inl (barred script run kept client other found.set found.ask.mode known_other found.in_sets ∙ held)
    by_kept (inr behind) =
        let parts = and_parts (not (gave_up script w found.set other)) (waits_behind script w found.set other found.ask.client) behind in
        inr (subst (λ (c : ℕ). waits_behind script w found.set other c ≡ true) found.own parts.1, not_true (gave_up script w found.set other) parts.0)

pub edges_are_told : EdgesAreTold
edges_are_told script run whole is_run client other known_client known_other e =
    told_of script run (kept_at_end script run whole is_run) client other known_client known_other e

void_of : (script : ScriptData) (run : List Logged) → LinesKept script (lines_of run) (world_after script run) → (client other : ℕ)
    → client < length script.clients → waits_behind_void script (world_after script run) client other ≡ true → IsVoidEdge script run client other
void_of script run kept client other known e = record {
  want = holding client found.set found.ask.mode;
  want_is = ap (in_sets script) ((kept.waits client found.set found.ask.mode known found.in_sets).1 asks)
      ∙ ap (λ (t : Bool). if t then Some (holding client found.set found.ask.mode) else None) (lt-ltb found.set (length script.sets) found.in_sets);
  asks = asks;
  behind = subst (λ (c : ℕ). waits_behind script w found.set other c ≡ true) found.own parts.1;
  void = parts.0;
}
  where
    w : World
    w = world_after script run

    found : LiveAsk script w client (λ s ask. is_behind_void script w s other ask)
    found = behind_kept script w client other e

    asks : WaitsFor script w client found.set found.ask.mode
    asks = (found.ask, found.there, found.own, refl, found.live)

    parts : (gave_up script w found.set other ≡ true) × (waits_behind script w found.set other found.ask.client ≡ true)
    parts = and_parts (gave_up script w found.set other) (waits_behind script w found.set other found.ask.client) found.kept

pub void_edges_are_told : VoidEdgesAreTold
void_edges_are_told script run whole is_run client other known e =
    void_of script run (kept_at_end script run whole is_run) client other known e
