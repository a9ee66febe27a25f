-- Where all clients release what they may hold, only a ring keeps a client waiting, or an ask that was given up.
use Rattle.std.proofs.Common.{◌≡◌, ℕ, zero, suc, ◌≤◌, List, [], ◌∷◌, length, Some, true, refl, ap, subst, arith, take, ◌∙◌, inl, inr, ◌⊎◌, ◌↔◌, IsTrue, slice_get, fold, ltb-false}
use Rattle.std.proofs.lemmas.Bool.{and_parts}
use Rattle.std.specs.List.{list_all}
use Rattle.lt_modes.specs.Script.{ScriptData}
use Rattle.lt_modes.specs.declared.command.Command.{Command}
use Rattle.lt_lists.proofs.Sums.{counted_some}
use Rattle.lt_spec.specs.NodeMove.{home, commands_of, IsWhole}
use Rattle.lt_spec.specs.Facts.{state_at}
use Rattle.lt_spec.specs.Holdings.{Holding, holding, same_holding, holdings, lines_of, times_held}
use Rattle.lt_spec.specs.World.{Logged, World, world_after, IsRun, made_by, anyone_waits}
use Rattle.lt_spec.specs.Promised.{WaitInRing, WaitBehindVoid}
use Rattle.lt_spec.specs.Ordered.{may_hold, may_hold_after, holds_none}
use Rattle.lt_law_accounts.proofs.RowTotals.{total}
use Rattle.lt_law_lines.proofs.KeptLines.{lines_kept_in_runs}
use Rattle.lt_law_lines.proofs.OwnerRuns.{held_in_runs}
use Rattle.lt_law_lines.proofs.LineCounts.{same_holding-itself}
use Rattle.lt_law_waiting.specs.WaitingLaws.{EndedHoldsUp}
use Rattle.lt_law_waiting.proofs.Explained.{waiters_are_explained, waiters_have_reasons}
use Rattle.lt_law_ordered.specs.OrderedLaws.{is_steady, IsReleasing, StuckByRing, StuckByRingOrVoid}
use Rattle.lt_law_ordered.proofs.LoanMoves.{AreSteady, within_in_runs}

some_one : (a b : Command) → Some a ≡ Some b → a ≡ b
some_one a b e = cc

steady_at : (commands : List Command) (k : ℕ) (command : Command) → list_all is_steady commands ≡ true → slice_get commands k ≡ Some command → is_steady command ≡ true
steady_at [] k command h e = cc
steady_at (first ∷ rest) zero command h e = subst (λ (c : Command). is_steady c ≡ true) (some_one first command e) (and_parts (is_steady first) _ h).0
steady_at (first ∷ rest) (suc k) command h e = steady_at rest k command (and_parts (is_steady first) _ h).1 e

releasing_steady : (script : ScriptData) → IsReleasing script → AreSteady script
releasing_steady script h c k command known e =
    steady_at (commands_of script c) k command (and_parts (list_all is_steady (commands_of script c)) _ (h c known)).0 e

all_taken : (commands : List Command) (k : ℕ) → length commands ≤ k → take k commands ≡ take (length commands) commands
all_taken [] zero h = refl
all_taken [] (suc k) h = refl
all_taken (first ∷ rest) zero h = absurd (omega (arith, h))
all_taken (first ∷ rest) (suc k) h = ap (λ (l : List Command). first ∷ l) (all_taken rest k (omega (arith, h)))

none_is : (locks : List Holding) → holds_none locks ≡ true → locks ≡ []
none_is [] e = refl
none_is (lock ∷ rest) e = cc

-- none of them ends while it holds a lock
none_holds_up : (script : ScriptData) (run : List Logged) → IsWhole script → IsRun script run → IsReleasing script → (k : ℕ)
    → EndedHoldsUp script (lines_of (take k run)) (world_after script (take k run)) → ⊥
none_holds_up script run whole is_run releasing k (waiter, last, waits, known, ended, holds) =
    let w = world_after script (take k run) in
    let parts = and_parts (list_all is_steady (commands_of script last)) _ (releasing last known) in
    let all : length (commands_of script last) ≤ made_by script w last = omega (arith, ltb-false (made_by script w last) (length (commands_of script last)) ended.commands) in
    let nothing : may_hold script last (made_by script w last) ≡ [] =
    ap (λ (l : List Command). fold (may_hold_after script last) [] l) (all_taken (commands_of script last) (made_by script w last) all)
    ∙ none_is (may_hold script last (length (commands_of script last))) parts.1 in
    let named = (lines_kept_in_runs script run whole is_run k).named holds.lock holds.held in
    let some = counted_some (same_holding holds.lock) (holdings script (lines_of (take k run))) holds.lock holds.held (same_holding-itself holds.lock) in
    let client : holds.lock.client ≡ last = holds.holder in
    let own = (held_in_runs script run whole is_run k).own holds.lock named.1 in
    let within = (within_in_runs script run whole is_run (releasing_steady script releasing) k last known).loans holds.lock.set holds.lock.mode named.1 in
    let same : total (state_at w holds.lock.set (home script holds.lock.client)).held holds.lock.client holds.lock.mode ≡ total (state_at w holds.lock.set (home script last)).held last holds.lock.mode =
    ap (λ (x : ℕ). total (state_at w holds.lock.set (home script x)).held x holds.lock.mode) client in
    let empty = ap (λ (l : List Holding). times_held l (holding last holds.lock.set holds.lock.mode)) nothing in
    omega (arith, some, own, within, same, empty)

pub stuck_by_ring : StuckByRing
stuck_by_ring script run whole is_run releasing k rest unmarked = (
  λ someone. elim (explained.0 someone) [
    | inl ring ↦ ring
    | inr held ↦ absurd (none_holds_up script run whole is_run releasing k held)
  ],
  λ ring. explained.1 (inl ring),
)
  where
    explained : IsTrue (anyone_waits script (world_after script (take k run)))
        ↔ (WaitInRing script (world_after script (take k run)) ⊎ EndedHoldsUp script (lines_of (take k run)) (world_after script (take k run)))
    explained = waiters_are_explained script run whole is_run k rest unmarked

pub stuck_by_ring_or_void : StuckByRingOrVoid
stuck_by_ring_or_void script run whole is_run releasing k rest = (
  λ someone. elim (reasons.0 someone) [
    | inl ring ↦ inl ring
    | inr other ↦ elim other [
      | inl held ↦ absurd (none_holds_up script run whole is_run releasing k held)
      | inr void ↦ inr void
    ]
  ],
  λ cause. elim cause [
    | inl ring ↦ reasons.1 (inl ring)
    | inr void ↦ reasons.1 (inr (inr void))
  ],
)
  where
    w : World
    w = world_after script (take k run)

    reasons : IsTrue (anyone_waits script w) ↔ (WaitInRing script w ⊎ (EndedHoldsUp script (lines_of (take k run)) w ⊎ WaitBehindVoid script w))
    reasons = waiters_have_reasons script run whole is_run k rest
