-- At rest each waiting client waits for some client.
use Rattle.std.specs.List.{list_any}
use Rattle.std.proofs.Common.{◌≡◌, ◌≢◌, ◌⊎◌, ℕ, zero, suc, ◌<◌, ◌≤◌, inl, inr, List, [], ◌∷◌, ◌++◌, length, Some, Bool, true, false, refl, sym, ap, subst, arith, take, ◌∙◌, ◌==◌, ◌&&◌, ◌||◌, not, if◌then◌else◌, nat_lt, Contains, IsTrue, eq-eqb, eqb-true, lt-ltb, ltb-true}
use Rattle.std.proofs.lemmas.Bool.{or_cases, or_left, or_right, and_parts, and_from, false≢true}
use Rattle.std.proofs.lemmas.List.Elements.{All-contains}
use Rattle.std.proofs.lemmas.List.Sums.{get_or-le-sum_by}
use Rattle.lt_modes.specs.declared.mode.Mode.{Mode}
use Rattle.lt_modes.specs.declared.ask.Ask.{Ask}
use Rattle.lt_modes.specs.declared.parts.Row.{Row}
use Rattle.lt_modes.specs.declared.stamp.Stamp.{Stamp}
use Rattle.lt_modes.specs.Modes.{conflicts, excludes_itself, count_of}
use Rattle.lt_modes.specs.Fits.{ask_if, parked_asks, has_client, are_apart}
use Rattle.lt_modes.specs.Script.{ScriptData}
use Rattle.lt_modes.specs.Serving.{queue_of, is_gone}
use Rattle.lt_modes.specs.Waiting.{waits, pending_ask, is_before, stands_before, has_older, parked_behind}
use Rattle.lt_modes.specs.Telling.{is_newer}
use Rattle.lt_modes.specs.State.{ParkedAsk}
use Rattle.lt_modes.proofs.ModeAlgebra.{has-itself, any_mode-at, any_mode-which}
use Rattle.lt_lists.proofs.Members.{contains_first, list_any-at, filter_map-at, contains_later, list_any-which}
use Rattle.lt_lists.proofs.Searches.{any_below_at, any_below_none}
use Rattle.lt_lists.proofs.Sums.{sum_below-at, counted_in}
use Rattle.lt_lists.specs.Below.{any_below}
use Rattle.lt_spec.specs.NodeMove.{home, IsWhole}
use Rattle.lt_spec.specs.Facts.{state_at, places_in_state, LeadsBy, IsLedToQueue}
use Rattle.lt_spec.specs.World.{World, world_after, is_waiting, is_at_rest, is_runnable}
use Rattle.lt_spec.specs.Holdings.{holds_against, waits_behind, waits_for, waits_behind_void, gave_up, live_ask, Holding, holding, same_holding, holdings, lines_of, WaitsFor, is_kept_by}
use Rattle.lt_spec.specs.Promised.{HasEnded}
use Rattle.lt_law_accounts.proofs.Asks.{times_in-some}
use Rattle.lt_law_accounts.proofs.RowTotals.{row_count, total}
use Rattle.lt_model.specs.Homes.{Homes, IsRowAtHome, IsAskAtHome, IsAskOf}
use Rattle.lt_model.specs.Invariant.{WorldInvariant}
use Rattle.lt_model.proofs.HomesMove.{homes_in_runs}
use Rattle.lt_model.proofs.PathsMove.{kept_stands}
use Rattle.lt_model.proofs.Runs.{stands_once}
use Rattle.lt_law_invariant.specs.InvariantLaws.{IsBarred}
use Rattle.lt_law_invariant.proofs.FirstWaiter.{first_waiter_conflicts}
use Rattle.lt_law_invariant.proofs.MidMove.{asks_are_led}
use Rattle.lt_law_invariant.proofs.ClientEffects.{one_of_client}
use Rattle.lt_law_invariant.proofs.ClientMoves.{at_first}
use Rattle.lt_law_invariant.proofs.ClientsKept.{sound_clients}
use Rattle.lt_law_invariant.proofs.SoundStates.{kept_in_runs}
use Rattle.lt_law_lines.proofs.KeptLines.{counted_all, lines_tell_held}
use Rattle.lt_law_lines.proofs.LineCounts.{same_holding-true}
use Rattle.lt_law_waiting.specs.WaitingLaws.{EachHasReason, EachWaitsForSome, EndedHold}
use Rattle.lt_law_waiting.proofs.KeptAsks.{any_below_which, find_some, live_from, kept_waits, behind_waits, KeptAsk, waits_kept, ask_waits}
use Rattle.lt_law_waiting.proofs.Unmarked.{none_behind}

not_true : (b : Bool) → not b ≡ true → b ≡ false
not_true true e = cc
not_true false e = refl

-- a row that conflicts keeps the ask
row_keeps : (script : ScriptData) (w : World) (s : ℕ) (mode : Mode) (row : Row) → 1 ≤ count_of (state_at w s (home script row.client)).held row.client row.mode
    → conflicts mode row.mode ≡ true → holds_against script w s mode row.client ≡ true
row_keeps script w s mode row some conflict =
    any_mode-at (λ m. conflicts mode m && nat_lt 0 (count_of (state_at w s (home script row.client)).held row.client m)) row.mode
    (and_from _ _ conflict (lt-ltb 0 (count_of (state_at w s (home script row.client)).held row.client row.mode) (omega (arith, some))))

-- a row counts its locks
pub row_counts : (rows : List Row) (row : Row) → Contains rows row → 1 ≤ row.count → 1 ≤ total rows row.client row.mode
row_counts rows row there some =
    let part = get_or-le-sum_by (row_count row.client row.mode) rows there.0 row there.1 in
    omega (arith, part, ap (row_count row.client row.mode) there.2, ap (λ (b : Bool). if b then row.count else 0) (and_from _ _ (eq-eqb row.client row.client refl) (has-itself row.mode)), some)

-- an ask in a queue has no other one of its client there
apart_back : (xs ys : List Ask) → are_apart (xs ++ ys) ≡ true → are_apart ys ≡ true
apart_back [] ys h = h
apart_back (x ∷ xs) ys h = apart_back xs ys (and_parts (not (has_client x.client (xs ++ ys))) _ h).1

first_apart : (ask : Ask) (rest : List Ask) → are_apart (ask ∷ rest) ≡ true → (other : Ask) → Contains rest other → other.client ≢ ask.client
first_apart ask rest h other there same =
    not_true (has_client ask.client rest) (and_parts (not (has_client ask.client rest)) _ h).0
    (list_any-at (λ (a : Ask). a.client == ask.client) rest other there (eq-eqb other.client ask.client same))
  where
    not_true : (b : Bool) → not b ≡ true → b ≡ true → ⊥
    not_true true e f = false≢true e
    not_true false e f = false≢true f

not_newer_itself : (stamp : Stamp) → is_newer stamp stamp ≡ true → ⊥
not_newer_itself stamp e = elim (or_cases (nat_lt stamp.clock stamp.clock) (stamp.clock == stamp.clock && nat_lt stamp.node stamp.node) e) [
  | inl earlier ↦ omega (arith, ltb-true stamp.clock stamp.clock earlier)
  | inr same ↦ omega (arith, ltb-true stamp.node stamp.node (and_parts (stamp.clock == stamp.clock) (nat_lt stamp.node stamp.node) same).1)
]

-- an ask in a queue is unanswered at its own node
pub queue_waits : (script : ScriptData) (w : World) (s q : ℕ) (ask : Ask) → WorldInvariant script w → s < length script.sets → q < script.nodes → Contains (queue_of (state_at w s q)) ask
    → Contains (state_at w s ask.node).pending ask
queue_waits script w s q ask kept in_sets below there =
    (stands_once script w s ask (kept_stands script w s (kept.sets s in_sets))
    (omega (arith, times_in-some ask (queue_of (state_at w s q)) there, sum_below-at script.nodes q (λ x. places_in_state ask (state_at w s x)) below))).1

-- for whom the client waits, or behind whose void ask
record Reason (script : ScriptData) (w : World) (c : ℕ) : Type 0 where
  other : ℕ
  known : other < length script.clients
  waits : (waits_for script w c other ≡ true) ⊎ (waits_behind_void script w c other ≡ true)

reason_of : (script : ScriptData) (w : World) → IsWhole script → WorldInvariant script w → Homes script w → IsTrue (is_at_rest script w) → (c : ℕ) → c < length script.clients
    → is_waiting script w c ≡ true → Reason script w c
reason_of script w whole kept homes rest c known e = by_chain led.0 led.1
  where
    set : (s : ℕ) × (s < length script.sets) × (waits (state_at w s (home script c)) c ≡ true)
    set = any_below_which (length script.sets) (λ s. waits (state_at w s (home script c)) c) e

    s : ℕ
    s = set.0

    wanted : (list_any (λ (a : Ask). a.client == c) (state_at w s (home script c)).pending ≡ true) × (not (is_gone (state_at w s (home script c)) c) ≡ true)
    wanted = and_parts (list_any (λ (a : Ask). a.client == c) (state_at w s (home script c)).pending) _ set.2

    found : (ask : Ask) × (pending_ask (state_at w s (home script c)) c ≡ Some ask) × Contains (state_at w s (home script c)).pending ask × ((ask.client == c) ≡ true)
    found = find_some (λ (a : Ask). a.client == c) (state_at w s (home script c)).pending wanted.0

    ask : Ask
    ask = found.0

    live : live_ask (state_at w s (home script c)) c ≡ Some ask
    live = live_from (state_at w s (home script c)) c ask (not_true (is_gone (state_at w s (home script c)) c) wanted.1) found.1

    own : ask.client ≡ c
    own = eqb-true ask.client c found.3

    led : IsLedToQueue script w s ask
    led = asks_are_led script w s (home script c) ask (kept.sets s set.1) (whole.homes c known) rest found.2

    -- a lock that conflicts
    by_lock : IsBarred script w s ask → Reason script w c
    by_lock barred =
        let row = All-contains (IsRowAtHome script barred.node) (state_at w s barred.node).held barred.row (homes.states barred.node s).rows barred.held in
        let counts : 1 ≤ count_of (state_at w s barred.node).held barred.row.client barred.row.mode = omega (
          arith,
          row_counts (state_at w s barred.node).held barred.row barred.held row.count,
          counted_all (state_at w s barred.node).held ((kept.sets s set.1).states barred.node barred.within).rows_apart barred.row.client barred.row.mode,
        ) in
        record {
          other = barred.row.client;
          known = row.client;
          waits = inl (kept_waits script w s c barred.row.client ask set.1 live (λ same. barred.other (sym same ∙ sym own))
              (or_left _ _ (row_keeps script w s ask.mode barred.row (subst (λ (q : ℕ). 1 ≤ count_of (state_at w s q).held barred.row.client barred.row.mode) (sym row.home) counts) barred.conflict)));
        }

    -- an ask before it, void or not
    by_ask : (q : ℕ) → q < script.nodes → (other : Ask) → other.client < length script.clients → other.client ≢ c
        → (stands_before (state_at w s q) other.client ask.client || parked_behind (state_at w s q) other.client ask.client) ≡ true → Reason script w c
    by_ask q below other there apart stands = record { other = other.client; known = there; waits = by_mark (gave_up script w s other.client) refl }
      where
        behind : waits_behind script w s other.client ask.client ≡ true
        behind = any_below_at script.nodes q (λ x. stands_before (state_at w s x) other.client ask.client || parked_behind (state_at w s x) other.client ask.client) below stands

        by_mark : (t : Bool) → gave_up script w s other.client ≡ t → (waits_for script w c other.client ≡ true) ⊎ (waits_behind_void script w c other.client ≡ true)
        by_mark true void = inr (behind_waits script w s c other.client ask set.1 live (and_from _ _ void behind))
        by_mark false is = inl (kept_waits script w s c other.client ask set.1 live (λ same. apart (sym same)) (or_right _ _ (and_from _ _ (ap not is) behind)))

    by_queue : (q : ℕ) → q < script.nodes → (queue : List Ask) → queue_of (state_at w s q) ≡ queue → Contains queue ask → Reason script w c
    by_queue q below [] e there = absurd (omega (arith, there.1))
    by_queue q below (first ∷ others) e (zero, within, is) =
        by_lock (first_waiter_conflicts script w s ask (kept.sets s set.1) rest (q, others, below, e ∙ ap (λ (a : Ask). a ∷ others) is))
    by_queue q below (first ∷ others) e (suc i, within, is) =
        let later : Contains others ask = (i, omega (arith, within), is) in
        let apart = apart_back (parked_asks (state_at w s q)) (queue_of (state_at w s q)) ((kept.sets s set.1).states q below).apart in
        let at_home = All-contains (IsAskAtHome script) (queue_of (state_at w s q)) first (homes.states q s).queue (subst (λ (l : List Ask). Contains l first) (sym e) (contains_first first first others refl)) in
        by_ask q below first at_home.client (λ same. first_apart first others (subst (λ (l : List Ask). are_apart l ≡ true) e apart) ask later (own ∙ sym same))
        (or_left _ _ (ap (is_before first.client ask.client) e ∙ or_left _ _ (and_from _ _ (eq-eqb first.client first.client refl) (list_any-at (λ (a : Ask). a.client == ask.client) others ask later (eq-eqb ask.client ask.client refl)))))

    by_chain : (chain : List Ask) → LeadsBy script w s ask chain → Reason script w c
    by_chain [] (q, below, there) = by_queue q below (queue_of (state_at w s q)) refl there
    by_chain (older ∷ more) (behind, leads) =
        let at_home = All-contains (IsAskOf script older.node) (state_at w s older.node).pending older (homes.states older.node s).pending behind.unanswered in
        let below = subst (λ (q : ℕ). q < script.nodes) (at_home.0.home) (whole.homes older.client at_home.0.client) in
        by_ask older.node below older at_home.0.client
        (λ same.
        let same_home : older.node ≡ home script c = sym at_home.0.home ∙ ap (home script) same in
        let clients = at_first script (w.node (home script c)) (sound_clients script w (home script c) kept (whole.homes c known)) s set.1 in
        let one = one_of_client (state_at w s (home script c)).pending ask older (clients.one ask.client) found.2
        (subst (λ (q : ℕ). Contains (state_at w s q).pending older) same_home behind.unanswered) (same ∙ sym own) in
        not_newer_itself ask.stamp (subst (λ (a : Ask). is_newer ask.stamp a.stamp ≡ true) (sym one) behind.younger))
        (or_right _ _ (list_any-at (λ (a : Ask). a.client == ask.client && has_older (state_at w s older.node) older.client a) (parked_asks (state_at w s older.node)) ask
        (filter_map-at ask_if (state_at w s older.node).parked (ParkedAsk ask) ask behind.parked refl)
        (and_from _ _ (eq-eqb ask.client ask.client refl)
        (list_any-at (λ (a : Ask). a.client == older.client && (excludes_itself a.mode && is_newer ask.stamp a.stamp)) (state_at w s older.node).pending older behind.unanswered
        (and_from _ _ (eq-eqb older.client older.client refl) (and_from _ _ behind.taking behind.younger))))))

pub each_has_reason : EachHasReason
each_has_reason script run whole is_run k client known rest waiting =
    let one = reason_of script (world_after script (take k run)) whole (kept_in_runs script run whole is_run k) (homes_in_runs script run whole is_run k) rest client known waiting in
    (one.other, one.known, one.waits)

pub each_waits_for_some : EachWaitsForSome
each_waits_for_some script run whole is_run k client known rest unmarked waiting =
    let reason = each_has_reason script run whole is_run k client known rest waiting in (
      reason.0,
      reason.1,
      elim reason.2 [
        | inl waits ↦ waits
        | inr behind ↦ absurd (false≢true (sym (none_behind script (world_after script (take k run)) unmarked client reason.0) ∙ behind))
      ],
    )

-- At rest a client that keeps an ask and doesn't wait itself has ended, and holds a lock.

-- who doesn't wait at rest has ended
pub has_ended : (script : ScriptData) (w : World) (c : ℕ) → IsTrue (is_at_rest script w) → c < length script.clients → is_waiting script w c ≡ false → HasEnded script w c
has_ended script w c rest known waits_not =
    let parts = and_parts (not (any_below (length script.clients) (is_runnable script w))) _ rest in
    record {
      waits = waits_not;
      commands = second_false _ _ (or_left _ _ (ap not waits_not)) (any_below_none (length script.clients) (is_runnable script w) (not_true _ parts.0) c known);
    }
  where
    second_false : (a b : Bool) → a ≡ true → (a && b) ≡ false → b ≡ false
    second_false true b e f = f
    second_false false b e f = cc

-- an ask that stands before another one is in the queue
before_there : (first second : ℕ) (queue : List Ask) → is_before first second queue ≡ true → (ask : Ask) × Contains queue ask × (ask.client ≡ first)
before_there first second [] e = absurd (false≢true e)
before_there first second (ask ∷ rest) e = elim (or_cases (ask.client == first && has_client second rest) (is_before first second rest) e) [
  | inl here ↦ (ask, contains_first ask ask rest refl, eqb-true ask.client first (and_parts (ask.client == first) _ here).0)
  | inr later ↦ let found = before_there first second rest later in (found.0, contains_later ask found.0 rest found.1, found.2)
]

-- a client that keeps an ask of another one and doesn't wait holds a lock with which it conflicts
kept_by_lock : (script : ScriptData) (w : World) (s c d : ℕ) (ask : Ask) → WorldInvariant script w → Homes script w → s < length script.sets → is_kept_by script w s d ask ≡ true → is_waiting script w d ≡ false
    → holds_against script w s ask.mode d ≡ true
kept_by_lock script w s c d ask kept homes in_sets keeps waits_not = elim (or_cases (holds_against script w s ask.mode d) _ keeps) [
  | inl lock ↦ lock
  | inr other ↦
      let parts = and_parts (not (gave_up script w s d)) (waits_behind script w s d ask.client) other in
      let live = not_true (gave_up script w s d) parts.0 in
      let at = any_below_which script.nodes (λ q. stands_before (state_at w s q) d ask.client || parked_behind (state_at w s q) d ask.client) parts.1 in
      absurd (elim (or_cases (stands_before (state_at w s at.0) d ask.client) _ at.2) [
        | inl before ↦
            let found = before_there d ask.client (queue_of (state_at w s at.0)) before in
            let at_home = All-contains (IsAskAtHome script) (queue_of (state_at w s at.0)) found.0 (homes.states at.0 s).queue found.1 in
            let same : found.0.node ≡ home script d = sym at_home.home ∙ ap (home script) found.2 in
            false≢true (sym waits_not ∙ ask_waits script w s d found.0 in_sets
            (subst (λ (q : ℕ). Contains (state_at w s q).pending found.0) same (queue_waits script w s at.0 found.0 kept in_sets at.1 found.1)) found.2 live)
        | inr parked ↦
            let mine = list_any-which (λ (a : Ask). a.client == ask.client && has_older (state_at w s at.0) d a) (parked_asks (state_at w s at.0)) parked in
            let older = list_any-which (λ (a : Ask). a.client == d && (excludes_itself a.mode && is_newer mine.0.stamp a.stamp)) (state_at w s at.0).pending (and_parts (mine.0.client == ask.client) _ mine.2).1 in
            let own = eqb-true older.0.client d (and_parts (older.0.client == d) _ older.2).0 in
            let at_home = All-contains (IsAskOf script at.0) (state_at w s at.0).pending older.0 (homes.states at.0 s).pending older.1 in
            let same : at.0 ≡ home script d = sym at_home.1 ∙ sym at_home.0.home ∙ ap (home script) own in
            false≢true (sym waits_not ∙ ask_waits script w s d older.0 in_sets (subst (λ (q : ℕ). Contains (state_at w s q).pending older.0) same older.1) own live)
      ])
]

pub ended_hold : EndedHold
ended_hold script run whole is_run k waiter client in_clients known rest waits_on waits_not = (
  has_ended script w client rest known waits_not,
  record {
    lock = lock.0;
    mode = kept.ask.mode;
    held = lock.1;
    holder = ap (λ (x : Holding). x.client) (sym is);
    wanted = subst (λ (s : ℕ). WaitsFor script w waiter s kept.ask.mode) (ap (λ (x : Holding). x.set) is) (kept.ask, kept.there, kept.own, refl, kept.live);
    conflict = subst (λ (m : Mode). conflicts kept.ask.mode m ≡ true) (ap (λ (x : Holding). x.mode) is) parts.0;
  },
)
  where
    w : World
    w = world_after script (take k run)

    kept : KeptAsk script w waiter client
    kept = waits_kept script w waiter client waits_on

    against : holds_against script w kept.set kept.ask.mode client ≡ true
    against = kept_by_lock script w kept.set waiter client kept.ask (kept_in_runs script run whole is_run k) (homes_in_runs script run whole is_run k) kept.in_sets kept.kept waits_not

    mode : (m : Mode) × ((conflicts kept.ask.mode m && nat_lt 0 (count_of (state_at w kept.set (home script client)).held client m)) ≡ true)
    mode = any_mode-which (λ m. conflicts kept.ask.mode m && nat_lt 0 (count_of (state_at w kept.set (home script client)).held client m)) against

    parts : (conflicts kept.ask.mode mode.0 ≡ true) × (nat_lt 0 (count_of (state_at w kept.set (home script client)).held client mode.0) ≡ true)
    parts = and_parts (conflicts kept.ask.mode mode.0) _ mode.1

    key : Holding
    key = holding client kept.set mode.0

    lock : (x : Holding) × Contains (holdings script (lines_of (take k run))) x × (same_holding key x ≡ true)
    lock = counted_in (same_holding key) (holdings script (lines_of (take k run))) (omega (
      arith,
      ltb-true 0 (count_of (state_at w kept.set (home script client)).held client mode.0) parts.1,
      lines_tell_held script run whole is_run k client kept.set mode.0 known kept.in_sets,
    ))

    is : key ≡ lock.0
    is = same_holding-true key lock.0 lock.2
