-- At rest nobody waits in an upgrading script.
use Rattle.std.proofs.Common.{◌≡◌, ℕ, zero, suc, ◌+◌, ◌<◌, ◌≤◌, inl, inr, List, [], ◌∷◌, length, Option, Some, None, Bool, true, false, refl, sym, ap, subst, arith, take, ◌∙◌, ◌==◌, Contains, IsTrue, eqb-true, not}
use Rattle.std.proofs.lemmas.List.Elements.{All-contains}
use Rattle.lt_modes.specs.declared.mode.Mode.{Mode}
use Rattle.lt_modes.specs.declared.ask.Ask.{Ask}
use Rattle.lt_modes.specs.Script.{ScriptData}
use Rattle.lt_modes.specs.State.{SetState, Desk}
use Rattle.lt_modes.specs.Serving.{queue_of, queue_of_desk, is_gone}
use Rattle.lt_modes.specs.Waiting.{waits}
use Rattle.lt_lists.specs.Below.{sum_below}
use Rattle.lt_lists.proofs.Members.{list_any-which, nothing_in}
use Rattle.lt_lists.proofs.Searches.{any_below_none}
use Rattle.lt_lists.proofs.Sums.{sum_below-at, counted_some}
use Rattle.lt_spec.specs.NodeMove.{home, IsWhole}
use Rattle.lt_spec.specs.Facts.{state_at, IsFirstWaiter, LeadsBy, IsLedToQueue}
use Rattle.lt_spec.specs.Holdings.{Holding, holding, same_holding, holdings, lines_of, times_held}
use Rattle.lt_spec.specs.World.{World, world_after, made_by, is_waiting, is_at_rest, anyone_waits}
use Rattle.lt_model.specs.Homes.{Homes, IsRowAtHome}
use Rattle.lt_model.specs.Invariant.{WorldInvariant, Paths}
use Rattle.lt_model.proofs.HomesMove.{homes_in_runs}
use Rattle.lt_law_accounts.proofs.Rows.{held-at}
use Rattle.lt_law_accounts.proofs.RowTotals.{total}
use Rattle.lt_law_invariant.proofs.OneDesk.{one_desk}
use Rattle.lt_law_invariant.specs.InvariantLaws.{IsBarred}
use Rattle.lt_law_invariant.proofs.FirstWaiter.{first_waiter_conflicts}
use Rattle.lt_law_invariant.proofs.MidMove.{asks_are_led}
use Rattle.lt_law_invariant.proofs.ClientMoves.{idle_in}
use Rattle.lt_law_invariant.proofs.SoundStates.{kept_in_runs}
use Rattle.lt_law_lines.proofs.KeptLines.{lines_kept_in_runs}
use Rattle.lt_law_lines.proofs.OwnerRuns.{held_in_runs}
use Rattle.lt_law_lines.proofs.LineCounts.{same_holding-itself}
use Rattle.lt_law_waiting.proofs.KeptAsks.{any_below_which}
use Rattle.lt_law_waiting.proofs.WaitsAtRest.{row_counts}
use Rattle.lt_law_ordered.proofs.OrderedRest.{made_all}
use Rattle.lt_law_upgrades.specs.UpgradeLaws.{IsUpgrading, UpgradingFinish, UpgradingRelease, HolderHasDesk, ChangeIsNext, NoVoidChange}
use Rattle.std.specs.List.{list_any}
use Rattle.std.proofs.lemmas.Bool.{and_parts}
use Rattle.lt_law_upgrades.proofs.LiveAsks.{idle_gives}
use Rattle.lt_law_upgrades.proofs.MayUpgrade.{upgrading_none}
use Rattle.lt_law_upgrades.proofs.UpgradeWithin.{held_within, waits_above}
use Rattle.lt_law_upgrades.proofs.UpgradeReady.{IsSteadfast}
use Rattle.lt_law_upgrades.proofs.UpgradeRuns.{steadfast_in_runs}

-- who has made all its commands holds nothing
ended_none : (script : ScriptData) (w : World) (rank : ℕ → ℕ) (c s : ℕ) (mode : Mode) → IsSteadfast script w → IsUpgrading script rank → IsTrue (is_at_rest script w) → c < length script.clients → s < length script.sets
    → is_waiting script w c ≡ false → total (state_at w s (home script c)).held c mode ≡ 0
ended_none script w rank c s mode h upgrading rest known under waits_not = omega (
  arith,
  held_within script (w.node (home script c)) c s mode (h.within c known) under (idle_gives c (state_at w s (home script c)) (idle_in script (w.node (home script c)) c waits_not s under) mode),
  ap (λ (l : List Holding). times_held l (holding c s mode)) (upgrading_none script rank c (made_by script w c) (upgrading c known) (made_all script w c rest known waits_not)),
)

-- a set in which an ask is unanswered has a first waiter
first_of : (script : ScriptData) (w : World) (s : ℕ) (ask : Ask) (chain : List Ask) → LeadsBy script w s ask chain → (first : Ask) × IsFirstWaiter script w s first
first_of script w s ask [] (q, below, there) = by_queue (queue_of (state_at w s q)) refl there
  where
    by_queue : (queue : List Ask) → queue_of (state_at w s q) ≡ queue → Contains queue ask → (first : Ask) × IsFirstWaiter script w s first
    by_queue [] e there = absurd (omega (arith, there.1))
    by_queue (first ∷ rest) e there = (first, (q, rest, below, e))
first_of script w s ask (older ∷ rest) (behind, leads) = first_of script w s older rest leads

-- two asks that are first in the queue of a set are one
one_first : (script : ScriptData) (w : World) (s x y : ℕ) (a b : Ask) (more others : List Ask) → Paths script w s → x < script.nodes → y < script.nodes
    → queue_of (state_at w s x) ≡ a ∷ more → queue_of (state_at w s y) ≡ b ∷ others → a ≡ b
one_first script w s x y a b more others paths hx hy first second =
    let at_x = desk_at (state_at w s x) a more first in
    let at_y = desk_at (state_at w s y) b others second in
    let same = one_desk script w s paths (Some x) (Some y) at_x.0 at_y.0 (hx, at_x.1) (hy, at_y.1) in
    front_same (sym at_x.2 ∙ ap (λ (d : Desk). d.queue) same.1 ∙ at_y.2)
  where
    desk_at : (t : SetState) (ask : Ask) (rest : List Ask) → queue_of t ≡ ask ∷ rest → (desk : Desk) × (t.desk ≡ Some desk) × (desk.queue ≡ ask ∷ rest)
    desk_at t ask rest e = by_desk t.desk refl e
      where
        by_desk : (o : Option Desk) → t.desk ≡ o → queue_of_desk o ≡ ask ∷ rest → (desk : Desk) × (t.desk ≡ Some desk) × (desk.queue ≡ ask ∷ rest)
        by_desk None f g = cc
        by_desk (Some desk) f g = (desk, f, g)

    front_same : a ∷ more ≡ b ∷ others → a ≡ b
    front_same e = cc

-- a waiting client leads to another one that waits for a set of a greater rank
record WaitsHigher (script : ScriptData) (w : World) (rank : ℕ → ℕ) (s : ℕ) : Type 0 where
  client : ℕ
  set : ℕ
  ask : Ask
  known : client < length script.clients
  in_sets : set < length script.sets
  there : Contains (state_at w set (home script client)).pending ask
  own : ask.client ≡ client
  higher : rank s < rank set

waits_higher : (script : ScriptData) (w : World) (rank : ℕ → ℕ) → IsWhole script → WorldInvariant script w → Homes script w → IsSteadfast script w → IsUpgrading script rank → IsTrue (is_at_rest script w)
    → (s x : ℕ) (ask : Ask) → s < length script.sets → x < script.nodes → Contains (state_at w s x).pending ask → WaitsHigher script w rank s
waits_higher script w rank whole kept homes h upgrading rest s x ask in_sets below there = by_waits (is_waiting script w d) refl
  where
    led : IsLedToQueue script w s ask
    led = asks_are_led script w s x ask (kept.sets s in_sets) below rest there

    first : (first : Ask) × IsFirstWaiter script w s first
    first = first_of script w s ask led.0 led.1

    barred : IsBarred script w s first.0
    barred = first_waiter_conflicts script w s first.0 (kept.sets s in_sets) rest first.1

    d : ℕ
    d = barred.row.client

    row : IsRowAtHome script barred.node barred.row
    row = All-contains (IsRowAtHome script barred.node) (state_at w s barred.node).held barred.row (homes.states barred.node s).rows barred.held

    holds : 1 ≤ total (state_at w s (home script d)).held d barred.row.mode
    holds = subst (λ (q : ℕ). 1 ≤ total (state_at w s q).held d barred.row.mode) (sym row.home) (row_counts (state_at w s barred.node).held barred.row barred.held row.count)

    -- a change of the same set would be the first waiter
    not_same : (k : ℕ) (other : Ask) (g : Mode) → k < length script.sets → Contains (state_at w k (home script d)).pending other → other.client ≡ d → s ≡ k → other.gives_up ≡ Some g → ⊥
    not_same k other g under waits own same e =
        let next = (h.keeps k (home script d) under (whole.homes d row.client)).keeps.next other g waits e in
        let here = subst (λ (i : ℕ). queue_of (state_at w i (home script d)) ≡ other ∷ next.rest) (sym same) next.queue in
        let is_first = one_first script w s (home script d) first.1.0 other first.0 next.rest first.1.1 (kept.sets s in_sets).paths (whole.homes d row.client) first.1.2 here first.1.3 in
        barred.other (sym own ∙ ap (λ (a : Ask). a.client) is_first)

    not_true : (b : Bool) → not b ≡ true → b ≡ false
    not_true true e = cc
    not_true false e = refl

    by_waits : (waiting : Bool) → is_waiting script w d ≡ waiting → WaitsHigher script w rank s
    by_waits false e = absurd (omega (arith, holds, ended_none script w rank d s barred.row.mode h upgrading rest row.client in_sets e))
    by_waits true e =
        let found = any_below_which (length script.sets) (λ k. waits (state_at w k (home script d)) d) e in
        let parts = and_parts (list_any (λ (a : Ask). a.client == d) (state_at w found.0 (home script d)).pending) _ found.2 in
        let other = list_any-which (λ (a : Ask). a.client == d) (state_at w found.0 (home script d)).pending parts.0 in
        let own : other.0.client ≡ d = eqb-true other.0.client d other.2 in
        let live : is_gone (state_at w found.0 (home script d)) other.0.client ≡ false = ap (is_gone (state_at w found.0 (home script d))) own ∙ not_true _ parts.1 in
        record {
          client = d;
          set = found.0;
          ask = other.0;
          known = row.client;
          in_sets = found.1;
          there = other.1;
          own = own;
          higher = elim (waits_above script rank (w.node (home script d)) d found.0 s other.0 barred.row.mode (upgrading d row.client) (h.within d row.client)
              (h.keeps found.0 (home script d) found.1 (whole.homes d row.client)).keeps found.1 in_sets other.1 live own holds) [
                | inl higher ↦ higher
                | inr same ↦ absurd (not_same found.0 other.0 same.1 found.1 other.1 own same.0 same.2)
              ];
        }

-- so none waits
none_waits : (script : ScriptData) (w : World) (rank : ℕ → ℕ) → IsWhole script → WorldInvariant script w → Homes script w → IsSteadfast script w → IsUpgrading script rank → IsTrue (is_at_rest script w)
    → (fuel s x : ℕ) (ask : Ask) → s < length script.sets → x < script.nodes → Contains (state_at w s x).pending ask → sum_below (length script.sets) rank < rank s + fuel → ⊥
none_waits script w rank whole kept homes h upgrading rest zero s x ask in_sets below there high = omega (arith, high, sum_below-at (length script.sets) s rank in_sets)
none_waits script w rank whole kept homes h upgrading rest (suc fuel) s x ask in_sets below there high =
    let next = waits_higher script w rank whole kept homes h upgrading rest s x ask in_sets below there in
    none_waits script w rank whole kept homes h upgrading rest fuel next.set (home script next.client) next.ask next.in_sets (whole.homes next.client next.known) next.there
    (omega (arith, high, next.higher))

nobody : (script : ScriptData) (w : World) (rank : ℕ → ℕ) → IsWhole script → WorldInvariant script w → Homes script w → IsSteadfast script w → IsUpgrading script rank → IsTrue (is_at_rest script w)
    → anyone_waits script w ≡ false
nobody script w rank whole kept homes h upgrading rest = by_test (anyone_waits script w) refl
  where
    by_test : (some : Bool) → anyone_waits script w ≡ some → some ≡ false
    by_test false e = refl
    by_test true e =
        let client = any_below_which (length script.clients) (is_waiting script w) e in
        let set = any_below_which (length script.sets) (λ s. waits (state_at w s (home script client.0)) client.0) client.2 in
        let ask = list_any-which (λ (a : Ask). a.client == client.0) (state_at w set.0 (home script client.0)).pending
        (and_parts (list_any (λ (a : Ask). a.client == client.0) (state_at w set.0 (home script client.0)).pending) _ set.2).0 in
        absurd (none_waits script w rank whole kept homes h upgrading rest (suc (sum_below (length script.sets) rank)) set.0 (home script client.0) ask.0 set.1 (whole.homes client.0 client.1) ask.1 (omega arith))

pub upgrading_finish : UpgradingFinish
upgrading_finish script run rank whole is_run upgrading k rest =
    nobody script (world_after script (take k run)) rank whole (kept_in_runs script run whole is_run k) (homes_in_runs script run whole is_run k)
    (steadfast_in_runs script run rank whole is_run upgrading k) upgrading rest

pub upgrading_release : UpgradingRelease
upgrading_release script run rank whole is_run upgrading k rest = nothing_in (holdings script (lines_of (take k run))) (λ lock there.
    let w = world_after script (take k run) in
    let named = (lines_kept_in_runs script run whole is_run k).named lock there in
    let some = counted_some (same_holding lock) (holdings script (lines_of (take k run))) lock there (same_holding-itself lock) in
    let none = ended_none script w rank lock.client lock.set lock.mode (steadfast_in_runs script run rank whole is_run upgrading k) upgrading rest named.0 named.1
    (any_below_none (length script.clients) (is_waiting script w) (upgrading_finish script run rank whole is_run upgrading k rest) lock.client named.0) in
    omega (arith, some, none, (held_in_runs script run whole is_run k).own lock named.1))

pub holder_has_desk : HolderHasDesk
holder_has_desk script run rank whole is_run upgrading k s x row under below there taking =
    ((steadfast_in_runs script run rank whole is_run upgrading k).keeps s x under below).keeps.desk row.mode (held-at (state_at (world_after script (take k run)) s x).held row there) taking

pub change_is_next : ChangeIsNext
change_is_next script run rank whole is_run upgrading k s x ask gives_up under below there e =
    let next = ((steadfast_in_runs script run rank whole is_run upgrading k).keeps s x under below).keeps.next ask gives_up there e in
    (next.rest, next.queue)

pub no_void_change : NoVoidChange
no_void_change script run rank whole is_run upgrading k s x ask gives_up under below there e =
    ((steadfast_in_runs script run rank whole is_run upgrading k).keeps s x under below).live ask gives_up there e
