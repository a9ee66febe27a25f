-- Some client waits exactly where the lines have an open `wait` line.
use Rattle.std.specs.List.{list_any}
use Rattle.std.proofs.Common.{◌≡◌, ℕ, zero, suc, ◌<◌, List, length, Bool, true, refl, arith, inl, inr, ◌==◌, ◌↔◌, eq-eqb, eqb-true, false, not, ap}
use Rattle.std.proofs.lemmas.Bool.{or_cases, and_parts, and_from}
use Rattle.lt_modes.specs.declared.mode.Mode.{Mode}
use Rattle.lt_modes.specs.declared.ask.Ask.{Ask}
use Rattle.lt_modes.specs.declared.event.Event.{Event}
use Rattle.lt_modes.specs.Script.{ScriptData}
use Rattle.lt_modes.specs.Serving.{is_gone}
use Rattle.lt_modes.specs.Waiting.{waits}
use Rattle.lt_lists.specs.Below.{any_below}
use Rattle.lt_lists.proofs.Members.{list_any-at, list_any-which}
use Rattle.lt_lists.proofs.Searches.{any_below_at}
use Rattle.lt_spec.specs.NodeMove.{home}
use Rattle.lt_spec.specs.Facts.{state_at}
use Rattle.lt_spec.specs.World.{World, is_waiting, anyone_waits}
use Rattle.lt_spec.specs.Holdings.{WaitsFor, HasOpenWait, HasWaiter}

-- a search that finds something finds it at some number
any_below_which : (n : ℕ) (test : ℕ → Bool) → any_below n test ≡ true → (k : ℕ) × (k < n) × (test k ≡ true)
any_below_which zero test e = cc
any_below_which (suc n) test e = elim (or_cases (any_below n test) (test n) e) [
  | inl before ↦ let found = any_below_which n test before in (found.0, omega (arith, found.1), found.2)
  | inr last ↦ (n, omega arith, last)
]

-- where lines tell who waits, they have an open `wait` line exactly where some client waits
pub some_waiter : (script : ScriptData) (lines : List Event) (w : World)
    → ((client s : ℕ) (mode : Mode) → client < length script.clients → s < length script.sets
    → HasOpenWait client s mode lines ↔ WaitsFor script w client s mode)
    → (anyone_waits script w ≡ true) ↔ HasWaiter script lines
some_waiter script lines w told = (waiter, waiting)
  where
    not_true : (b : Bool) → not b ≡ true → b ≡ false
    not_true true e = cc
    not_true false e = refl

    waiter : anyone_waits script w ≡ true → HasWaiter script lines
    waiter e =
        let client = any_below_which (length script.clients) (is_waiting script w) e in
        let set = any_below_which (length script.sets) (λ s. waits (state_at w s (home script client.0)) client.0) client.2 in
        let t = state_at w set.0 (home script client.0) in
        let parts = and_parts (list_any (λ (a : Ask). a.client == client.0) t.pending) (not (is_gone t client.0)) set.2 in
        let ask = list_any-which (λ (a : Ask). a.client == client.0) t.pending parts.0 in (
          client.0,
          set.0,
          ask.0.mode,
          client.1,
          set.1,
          (told client.0 set.0 ask.0.mode client.1 set.1).1 (ask.0, ask.1, eqb-true ask.0.client client.0 ask.2, refl, not_true (is_gone t client.0) parts.1),
        )

    waiting : HasWaiter script lines → anyone_waits script w ≡ true
    waiting (client, s, mode, known, within, open_wait) =
        let ask = (told client s mode known within).0 open_wait in
        let t = state_at w s (home script client) in
        let here = and_from (list_any (λ (a : Ask). a.client == client) t.pending) (not (is_gone t client))
        (list_any-at (λ (a : Ask). a.client == client) t.pending ask.0 ask.1 (eq-eqb ask.0.client client ask.2)) (ap not ask.4) in
        any_below_at (length script.clients) client (is_waiting script w) known
        (any_below_at (length script.sets) s (λ k. waits (state_at w k (home script client)) client) within here)
