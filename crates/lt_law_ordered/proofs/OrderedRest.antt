-- At rest nobody waits, where each client waits only for sets of greater ranks.
use Rattle.std.proofs.Common.{◌≡◌, ℕ, zero, suc, ◌+◌, ◌<◌, ◌≤◌, List, [], ◌∷◌, length, Some, Bool, true, false, refl, sym, ap, subst, arith, take, ◌∙◌, ◌==◌, ◌&&◌, not, if◌then◌else◌, Contains, IsTrue, slice_get, eq-eqb, eqb-true, ltb-false}
use Rattle.std.proofs.lemmas.Bool.{and_parts, and_from, or_left}
use Rattle.std.proofs.lemmas.List.Elements.{All-contains}
use Rattle.std.specs.List.{list_any}
use Rattle.lt_modes.specs.declared.mode.Mode.{Mode}
use Rattle.lt_modes.specs.declared.ask.Ask.{Ask}
use Rattle.lt_modes.specs.declared.command.Command.TheVariants.{Lock}
use Rattle.lt_modes.specs.Modes.{same_mode}
use Rattle.lt_modes.specs.Script.{ScriptData}
use Rattle.lt_modes.specs.Serving.{queue_of, is_gone}
use Rattle.lt_modes.specs.Waiting.{waits}
use Rattle.lt_modes.proofs.ModeAlgebra.{has-itself}
use Rattle.lt_lists.specs.Below.{any_below, sum_below}
use Rattle.lt_lists.proofs.Members.{list_any-which, nothing_in}
use Rattle.lt_lists.proofs.Searches.{any_below_none}
use Rattle.lt_lists.proofs.Sums.{sum_below-at, counted_some}
use Rattle.lt_spec.specs.NodeMove.{home, commands_of, NodeState, IsWhole}
use Rattle.lt_spec.specs.Facts.{state_at, IsFirstWaiter, LeadsBy, IsLedToQueue}
use Rattle.lt_spec.specs.Holdings.{Holding, holding, same_holding, holdings, lines_of, times_held}
use Rattle.lt_spec.specs.World.{World, world_after, made_by, is_waiting, is_runnable, is_at_rest, anyone_waits}
use Rattle.lt_spec.specs.Ordered.{may_hold}
use Rattle.lt_law_accounts.proofs.RowTotals.{total}
use Rattle.lt_model.specs.Homes.{Homes, IsRowAtHome}
use Rattle.lt_model.specs.Invariant.{WorldInvariant}
use Rattle.lt_model.proofs.HomesMove.{homes_in_runs}
use Rattle.lt_law_invariant.specs.InvariantLaws.{IsBarred}
use Rattle.lt_law_invariant.proofs.FirstWaiter.{first_waiter_conflicts}
use Rattle.lt_law_invariant.proofs.MidMove.{asks_are_led}
use Rattle.lt_law_invariant.proofs.SoundStates.{kept_in_runs}
use Rattle.lt_law_lines.proofs.KeptLines.{lines_kept_in_runs}
use Rattle.lt_law_lines.proofs.OwnerRuns.{held_in_runs}
use Rattle.lt_law_lines.proofs.LineCounts.{same_holding-true, same_holding-itself}
use Rattle.lt_law_waiting.proofs.KeptAsks.{any_below_which}
use Rattle.lt_law_waiting.proofs.WaitsAtRest.{row_counts}
use Rattle.lt_law_ordered.specs.OrderedLaws.{is_ranked_from, IsRanked, OrderedFinish, OrderedRelease, RankedFinish, RankedRelease, AloneFinish, RankedHold, RankedWait}
use Rattle.lt_law_ordered.proofs.Loans.{is_for, asks_for}
use Rattle.lt_law_ordered.proofs.LoanMoves.{KeepsWithin, AllWithin, AreSteady, within_in_runs}
use Rattle.lt_law_ordered.proofs.MayHold.{may_hold_more, may_count, ranked_goes_up, ranked_none, ranked_steady, ranked_lock, ordered_ranked, alone_ranked}

-- a client that waits for a set holds locks of sets of smaller ranks alone
waits_above : (script : ScriptData) (rank : ℕ → ℕ) (n : NodeState) (c s t : ℕ) (mode other : Mode) → IsTrue (is_ranked_from script rank c [] (commands_of script c)) → KeepsWithin script n c
    → s < length script.sets → t < length script.sets → 1 ≤ asks_for (n.set s) c mode → 1 ≤ total (n.set t).held c other → rank t < rank s
waits_above script rank n c s t mode other ranked within in_sets also asks holds =
    ranked_lock rank s (may_hold script c last.0) key (ranked_goes_up script rank c last.0 (Lock s mode) ranked last.2) (by_same (same_holding key (holding c s mode)) refl)
  where
    key : Holding
    key = holding c t other

    last : (k : ℕ) × (n.made c ≡ suc k) × (slice_get (commands_of script c) k ≡ Some (Lock s mode))
    last = within.asked s mode in_sets asks

    counted : total (n.set t).held c other + asks_for (n.set t) c other
        ≤ (if same_holding key (holding c s mode) then times_held (may_hold script c last.0) key + 1 else times_held (may_hold script c last.0) key)
    counted = omega (
      arith,
      within.loans t other also,
      ap (λ (k : ℕ). times_held (may_hold script c k) key) last.1,
      ap (λ (l : List Holding). times_held l key) (may_hold_more script c last.0 (Lock s mode) last.2),
      may_count script c key (may_hold script c last.0) (Lock s mode),
    )

    by_same : (same : Bool) → same_holding key (holding c s mode) ≡ same → 1 ≤ times_held (may_hold script c last.0) key
    by_same true e =
        let is : key ≡ holding c s mode = same_holding-true key (holding c s mode) e in
        let asks_here : asks_for (n.set t) c other ≡ asks_for (n.set s) c mode = ap (λ (k : Holding). asks_for (n.set k.set) c k.mode) is in
        omega (arith, holds, asks, asks_here, counted, ap (λ (b : Bool). if b then times_held (may_hold script c last.0) key + 1 else times_held (may_hold script c last.0) key) e)
    by_same false e = omega (arith, holds, counted, ap (λ (b : Bool). if b then times_held (may_hold script c last.0) key + 1 else times_held (may_hold script c last.0) key) e)

-- who doesn't wait at rest has made all its commands
pub made_all : (script : ScriptData) (w : World) (c : ℕ) → IsTrue (is_at_rest script w) → c < length script.clients → is_waiting script w c ≡ false
    → length (commands_of script c) ≤ made_by script w c
made_all script w c rest known waits_not =
    let parts = and_parts (not (any_below (length script.clients) (is_runnable script w))) _ rest in
    let still = any_below_none (length script.clients) (is_runnable script w) (not_true _ parts.0) c known in
    omega (arith, ltb-false (made_by script w c) (length (commands_of script c)) (second_false _ _ (or_left (not (is_waiting script w c)) _ (ap not waits_not)) still))
  where
    not_true : (b : Bool) → not b ≡ true → b ≡ false
    not_true true e = cc
    not_true false e = refl

    second_false : (a b : Bool) → a ≡ true → (a && b) ≡ false → b ≡ false
    second_false true b e f = f
    second_false false b e f = cc

-- and may hold nothing
ended_none : (script : ScriptData) (rank : ℕ → ℕ) (w : World) (c s : ℕ) (mode : Mode) → IsTrue (is_ranked_from script rank c [] (commands_of script c)) → KeepsWithin script (w.node (home script c)) c
    → IsTrue (is_at_rest script w) → c < length script.clients → s < length script.sets → is_waiting script w c ≡ false → total (state_at w s (home script c)).held c mode ≡ 0
ended_none script rank w c s mode ranked within rest known in_sets waits_not =
    omega (arith, within.loans s mode in_sets, ap (λ (l : List Holding). times_held l (holding c s mode)) (ranked_none script rank c (made_by script w c) ranked (made_all script w c rest known waits_not)))

-- an ask of the client that wasn't given up is a live one for its mode
asks_some : (gone : Bool) (ask : Ask) (c : ℕ) → not gone ≡ true → ask.client ≡ c → is_for gone c ask.mode ask ≡ true
asks_some gone ask c live own = and_from _ _ live (and_from _ _ (eq-eqb c ask.client (sym own)) (has-itself ask.mode))

-- a set in which an ask is unanswered has a first waiter
first_of : (script : ScriptData) (w : World) (s : ℕ) (ask : Ask) (chain : List Ask) → LeadsBy script w s ask chain → (first : Ask) × IsFirstWaiter script w s first
first_of script w s ask [] (q, below, there) = by_queue (queue_of (state_at w s q)) refl there
  where
    by_queue : (queue : List Ask) → queue_of (state_at w s q) ≡ queue → Contains queue ask → (first : Ask) × IsFirstWaiter script w s first
    by_queue [] e there = absurd (omega (arith, there.1))
    by_queue (first ∷ rest) e there = (first, (q, rest, below, e))
first_of script w s ask (older ∷ rest) (behind, leads) = first_of script w s older rest leads

-- a waiting client leads to another one that waits for a set of a greater rank
record WaitsHigher (script : ScriptData) (w : World) (rank : ℕ → ℕ) (s : ℕ) : Type 0 where
  client : ℕ
  set : ℕ
  ask : Ask
  known : client < length script.clients
  in_sets : set < length script.sets
  there : Contains (state_at w set (home script client)).pending ask
  own : ask.client ≡ client
  higher : rank s < rank set

waits_higher : (script : ScriptData) (w : World) (rank : ℕ → ℕ) → WorldInvariant script w → Homes script w → AllWithin script w → IsRanked script rank → IsTrue (is_at_rest script w)
    → (s x : ℕ) (ask : Ask) → s < length script.sets → x < script.nodes → Contains (state_at w s x).pending ask → WaitsHigher script w rank s
waits_higher script w rank kept homes within ranked rest s x ask in_sets below there = by_waits (is_waiting script w d) refl
  where
    led : IsLedToQueue script w s ask
    led = asks_are_led script w s x ask (kept.sets s in_sets) below rest there

    first : (first : Ask) × IsFirstWaiter script w s first
    first = first_of script w s ask led.0 led.1

    barred : IsBarred script w s first.0
    barred = first_waiter_conflicts script w s first.0 (kept.sets s in_sets) rest first.1

    d : ℕ
    d = barred.row.client

    row : IsRowAtHome script barred.node barred.row
    row = All-contains (IsRowAtHome script barred.node) (state_at w s barred.node).held barred.row (homes.states barred.node s).rows barred.held

    holds : 1 ≤ total (state_at w s (home script d)).held d barred.row.mode
    holds = subst (λ (q : ℕ). 1 ≤ total (state_at w s q).held d barred.row.mode) (sym row.home) (row_counts (state_at w s barred.node).held barred.row barred.held row.count)

    by_waits : (waiting : Bool) → is_waiting script w d ≡ waiting → WaitsHigher script w rank s
    by_waits false e = absurd (omega (arith, holds, ended_none script rank w d s barred.row.mode (ranked d row.client) (within d row.client) rest row.client in_sets e))
    by_waits true e =
        let found = any_below_which (length script.sets) (λ k. waits (state_at w k (home script d)) d) e in
        let live = and_parts (list_any (λ (a : Ask). a.client == d) (state_at w found.0 (home script d)).pending) _ found.2 in
        let other = list_any-which (λ (a : Ask). a.client == d) (state_at w found.0 (home script d)).pending live.0 in
        let own : other.0.client ≡ d = eqb-true other.0.client d other.2 in
        record {
          client = d;
          set = found.0;
          ask = other.0;
          known = row.client;
          in_sets = found.1;
          there = other.1;
          own = own;
          higher = waits_above script rank (w.node (home script d)) d found.0 s other.0.mode barred.row.mode (ranked d row.client) (within d row.client) found.1 in_sets
              (counted_some (is_for (is_gone (state_at w found.0 (home script d)) d) d other.0.mode) (state_at w found.0 (home script d)).pending other.0 other.1
              (asks_some (is_gone (state_at w found.0 (home script d)) d) other.0 d live.1 own)) holds;
        }

-- so none waits
none_waits : (script : ScriptData) (w : World) (rank : ℕ → ℕ) → IsWhole script → WorldInvariant script w → Homes script w → AllWithin script w → IsRanked script rank → IsTrue (is_at_rest script w)
    → (fuel s x : ℕ) (ask : Ask) → s < length script.sets → x < script.nodes → Contains (state_at w s x).pending ask → sum_below (length script.sets) rank < rank s + fuel → ⊥
none_waits script w rank whole kept homes within ranked rest zero s x ask in_sets below there high = omega (arith, high, sum_below-at (length script.sets) s rank in_sets)
none_waits script w rank whole kept homes within ranked rest (suc fuel) s x ask in_sets below there high =
    let next = waits_higher script w rank kept homes within ranked rest s x ask in_sets below there in
    none_waits script w rank whole kept homes within ranked rest fuel next.set (home script next.client) next.ask next.in_sets (whole.homes next.client next.known) next.there
    (omega (arith, high, next.higher))

nobody : (script : ScriptData) (w : World) (rank : ℕ → ℕ) → IsWhole script → WorldInvariant script w → Homes script w → AllWithin script w → IsRanked script rank → IsTrue (is_at_rest script w)
    → anyone_waits script w ≡ false
nobody script w rank whole kept homes within ranked rest = by_test (anyone_waits script w) refl
  where
    by_test : (some : Bool) → anyone_waits script w ≡ some → some ≡ false
    by_test false e = refl
    by_test true e =
        let client = any_below_which (length script.clients) (is_waiting script w) e in
        let set = any_below_which (length script.sets) (λ s. waits (state_at w s (home script client.0)) client.0) client.2 in
        let live = and_parts (list_any (λ (a : Ask). a.client == client.0) (state_at w set.0 (home script client.0)).pending) _ set.2 in
        let ask = list_any-which (λ (a : Ask). a.client == client.0) (state_at w set.0 (home script client.0)).pending live.0 in
        absurd (none_waits script w rank whole kept homes within ranked rest (suc (sum_below (length script.sets) rank)) set.0 (home script client.0) ask.0 set.1 (whole.homes client.0 client.1) ask.1 (omega arith))

ranked_are_steady : (script : ScriptData) (rank : ℕ → ℕ) → IsRanked script rank → AreSteady script
ranked_are_steady script rank ranked c k command known e = ranked_steady script rank c k command (ranked c known) e

pub ranked_finish : RankedFinish
ranked_finish script run rank whole is_run ranked k rest =
    nobody script (world_after script (take k run)) rank whole (kept_in_runs script run whole is_run k) (homes_in_runs script run whole is_run k)
    (within_in_runs script run whole is_run (ranked_are_steady script rank ranked) k) ranked rest

pub ordered_finish : OrderedFinish
ordered_finish script run whole is_run ordered k rest = ranked_finish script run (λ s. s) whole is_run (ordered_ranked script ordered) k rest

pub ranked_hold : RankedHold
ranked_hold script run rank whole is_run ranked k client s mode known in_sets =
    omega (
      arith,
      (held_in_runs script run whole is_run k).own (holding client s mode) in_sets,
      (within_in_runs script run whole is_run (ranked_are_steady script rank ranked) k client known).loans s mode in_sets,
    )

pub ranked_wait : RankedWait
ranked_wait script run rank whole is_run ranked k client s t mode other known in_sets also waits holds =
    waits_above script rank (w.node (home script client)) client s t mode other (ranked client known) (within_in_runs script run whole is_run (ranked_are_steady script rank ranked) k client known) in_sets also
    (counted_some (is_for (is_gone (state_at w s (home script client)) client) client mode) (state_at w s (home script client)).pending waits.0 waits.1
    (and_from _ _ (ap not waits.4) (and_from _ _ (eq-eqb client waits.0.client (sym waits.2)) (ap (same_mode mode) waits.3 ∙ has-itself mode))))
    (omega (arith, holds, (held_in_runs script run whole is_run k).own (holding client t other) also))
  where
    w : World
    w = world_after script (take k run)

pub ranked_release : RankedRelease
ranked_release script run rank whole is_run ranked k rest = nothing_in (holdings script (lines_of (take k run))) (λ lock there.
    let w = world_after script (take k run) in
    let named = (lines_kept_in_runs script run whole is_run k).named lock there in
    let some = counted_some (same_holding lock) (holdings script (lines_of (take k run))) lock there (same_holding-itself lock) in
    let none = ended_none script rank w lock.client lock.set lock.mode (ranked lock.client named.0) (within_in_runs script run whole is_run (ranked_are_steady script rank ranked) k lock.client named.0) rest named.0 named.1
    (any_below_none (length script.clients) (is_waiting script w) (ranked_finish script run rank whole is_run ranked k rest) lock.client named.0) in
    omega (arith, some, none, (held_in_runs script run whole is_run k).own lock named.1))

pub ordered_release : OrderedRelease
ordered_release script run whole is_run ordered k rest = ranked_release script run (λ s. s) whole is_run (ordered_ranked script ordered) k rest

pub alone_finish : AloneFinish
alone_finish script run whole is_run alone k rest = ranked_finish script run (λ s. 0) whole is_run (alone_ranked script alone) k rest
