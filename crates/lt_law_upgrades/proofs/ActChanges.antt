-- What a client that waits for nothing holds, asks for and gives up in one set, as it changes a lock.
use Rattle.std.proofs.Common.{◌≡◌, ◌≢◌, ℕ, zero, suc, ◌+◌, ◌-◌, ◌≤◌, inl, inr, List, [], ◌∷◌, ◌++◌, Some, Bool, true, false, refl, sym, ap, subst, arith, ◌∙◌, ◌⊎◌, ◌==◌, ◌&&◌, not, if◌then◌else◌, Contains, count_by, eq-eqb}
use Rattle.std.proofs.lemmas.Bool.{and_right, false≢true}
use Rattle.std.proofs.lemmas.List.Elements.{Contains-push_cases}
use Rattle.lt_modes.specs.declared.mode.Mode.{Mode}
use Rattle.lt_modes.specs.declared.stamp.Stamp.{Stamp}
use Rattle.lt_modes.specs.declared.ask.Ask.{Ask}
use Rattle.lt_modes.specs.declared.parts.Row.{Row}
use Rattle.lt_modes.specs.declared.command.Command.TheVariants.{Change}
use Rattle.lt_modes.specs.declared.event.Event.TheVariants.{NotHeld, Wait, Withheld, Change as ChangeLine}
use Rattle.lt_modes.specs.Modes.{same_mode, count_of, add_lock, take_lock, locks_of, one, covers}
use Rattle.lt_modes.specs.Script.{ScriptData}
use Rattle.lt_modes.specs.State.{SetState, ParkedAsk}
use Rattle.lt_modes.specs.Granting.{can_grant}
use Rattle.lt_modes.specs.Serving.{is_gone, without_gone as left_gone}
use Rattle.lt_modes.specs.SetMove.{answers, given, ask_of, asked, asked_or_not, retaken, change_held, changed, same_wish}
use Rattle.lt_modes.specs.Waiting.{pending_ask}
use Rattle.lt_modes.proofs.ModeAlgebra.{same_mode-true, has-itself}
use Rattle.lt_spec.specs.Holdings.{Holding, holding, same_holding, times_held}
use Rattle.lt_law_accounts.proofs.RowTotals.{total, is_key, total_added, total_taken}
use Rattle.lt_law_invariant.proofs.OwnSteps.{route_same}
use Rattle.lt_law_invariant.proofs.ClientCounts.{SomeEach, each_some, asks_pushed, locks_added, locks_taken}
use Rattle.lt_law_invariant.proofs.ClientCommands.{IsIdle, count_within}
use Rattle.lt_law_invariant.proofs.ClientEffects.{is_asks, new_by, route_gone}
use Rattle.lt_law_ordered.proofs.Loans.{is_for, asks_for}
use Rattle.lt_law_ordered.proofs.ActLoans.{idle_asks, not_his}
use Rattle.lt_law_ordered.proofs.ChangeLoans.{weaker_granted}
use Rattle.lt_law_upgrades.specs.UpgradeLaws.{has_withdraw, may_still_hold_after}
use Rattle.lt_law_upgrades.proofs.TakingModes.{covers_itself}
use Rattle.lt_law_upgrades.proofs.LiveAsks.{none_total, alone, same_or_not, is_giving, asks_giving, locks_and_asks, same_wish-is, same_wish-there, total_within}
use Rattle.lt_law_upgrades.proofs.DeskStays.{AreLive}
use Rattle.lt_law_upgrades.proofs.MayUpgrade.{changed_has, changed_keeps, changed_stays}
use Rattle.lt_law_upgrades.proofs.ActBalance.{command_of, giving_for_sure, ActBalance}

-- what a change leads to
record ChangeCounts (script : ScriptData) (client s : ℕ) (gives_up mode : Mode) (t u : SetState) : Type 0 where
  loans : (c : ℕ) (m : Mode) → c ≢ client → total u.held c m + asks_for u c m ≤ total t.held c m + asks_for t c m
  others : (c : ℕ) (m : Mode) → c ≢ client → total u.held c m + asks_for u c m + asks_giving t c m ≤ total t.held c m + asks_for t c m + asks_giving u c m
  own : (locks : List Holding) → ((m : Mode) → total t.held client m ≤ times_held locks (holding client s m)) → locks_and_asks t client ≤ 1
      → (is_gone t client ≡ true → has_withdraw script client s ≡ true) → (m : Mode)
      → total u.held client m + asks_for u client m
      ≤ times_held (may_still_hold_after script client locks (Change s gives_up mode)) (holding client s m) + giving_for_sure script client s u m
  few : locks_and_asks t client ≤ 1 → locks_and_asks u client ≤ 1

no_key : (c client : ℕ) (m mode : Mode) → c ≢ client → ◌≡◌ {A = ℕ} (if is_key c m client mode then 1 else 0) 0
no_key c client m mode d = ap (λ (b : Bool). if b then 1 else 0) (not_his c client m mode d)

-- the ask goes to the queue
change_asked : (script : ScriptData) (client s : ℕ) (stamp : Stamp) (gives_up mode : Mode) (t : SetState) → IsIdle client t → 1 ≤ total t.held client gives_up
    → covers (one gives_up) mode ≡ false → is_gone t client ≡ false → ChangeCounts script client s gives_up mode t (asked s stamp (ask_of stamp client mode (Some gives_up) t) t).state
change_asked script client s stamp gives_up mode t none holds higher live = record {
  loans = λ c m d. omega (arith, asks c m, rows c m, other_key (is_gone t c) c m mode d);
  others = λ c m d. omega (arith, asks c m, giving c m, rows c m, other_key (is_gone t c) c m mode d, other_key (is_gone t c) c m gives_up d);
  own = λ locks held few marked m. by_mode locks held few m (same_or_not m gives_up) (same_or_not m mode) (has_withdraw script client s) refl;
  few = λ few. omega (arith, few, new_same, ap (λ (l : List Row). locks_of l client) (route_same s stamp false (ParkedAsk ask) more).1.held);
}
  where
    ask : Ask
    ask = ask_of stamp client mode (Some gives_up) t

    more : SetState
    more = record t { pending = t.pending ++ ask ∷ [] }

    u : SetState
    u = (asked s stamp ask t).state

    gone : (c : ℕ) → is_gone u c ≡ is_gone t c
    gone c = ap (λ (l : List ℕ). is_gone (record t { gone = l }) c) (route_gone s stamp false (ParkedAsk ask) more)

    pending : u.pending ≡ t.pending ++ ask ∷ []
    pending = (route_same s stamp false (ParkedAsk ask) more).1.pending

    asks : (c : ℕ) (m : Mode) → asks_for u c m ≡ asks_for t c m + (if not (is_gone t c) && is_key c m client mode then 1 else 0)
    asks c m = (λ i. count_by (is_for (gone c i) c m) (pending i)) ∙ asks_pushed (is_for (is_gone t c) c m) t.pending ask

    giving : (c : ℕ) (m : Mode) → asks_giving u c m ≡ asks_giving t c m + (if not (is_gone t c) && is_key c m client gives_up then 1 else 0)
    giving c m = (λ i. count_by (is_giving (gone c i) c m) (pending i)) ∙ asks_pushed (is_giving (is_gone t c) c m) t.pending ask

    rows : (c : ℕ) (m : Mode) → total u.held c m ≡ total t.held c m
    rows c m = ap (λ (l : List Row). total l c m) (route_same s stamp false (ParkedAsk ask) more).1.held

    other_key : (g : Bool) (c : ℕ) (m wanted : Mode) → c ≢ client → ◌≡◌ {A = ℕ} (if not g && is_key c m client wanted then 1 else 0) 0
    other_key g c m wanted d = ap (λ (b : Bool). if b then 1 else 0) (and_right (not g) _ (not_his c client m wanted d))

    -- a change is no ask for one more
    no_new : (b : Bool) → ◌≡◌ {A = ℕ} (if b && false then 1 else 0) 0
    no_new true = refl
    no_new false = refl

    new_same : count_by (new_by (is_gone u client) client) u.pending ≡ count_by (new_by (is_gone t client) client) t.pending
    new_same = (λ i. count_by (new_by (gone client i) client) (pending i)) ∙ asks_pushed (new_by (is_gone t client) client) t.pending ask
        ∙ omega (arith, no_new (not (is_gone t client) && client == client))

    differ : gives_up ≢ mode
    differ e = false≢true (sym higher ∙ ap (covers (one gives_up)) (sym e) ∙ covers_itself gives_up)

    one_key : (a b : Mode) → a ≡ b → ◌≡◌ {A = ℕ} (if not (is_gone t client) && is_key client a client b then 1 else 0) 1
    one_key a b e = ap (λ (x : Bool). if x then 1 else 0)
        ((λ i. not (live i) && ((eq-eqb client client refl) i && same_mode (e i) b)) ∙ has-itself b)

    none_key : (a b : Mode) → a ≢ b → ◌≡◌ {A = ℕ} (if not (is_gone t client) && is_key client a client b then 1 else 0) 0
    none_key a b d = by_test (same_mode a b) refl
      where
        by_test : (same : Bool) → same_mode a b ≡ same → ◌≡◌ {A = ℕ} (if not (is_gone t client) && is_key client a client b then 1 else 0) 0
        by_test true e = absurd (d (same_mode-true a b e))
        by_test false e = ap (λ (x : Bool). if x then 1 else 0) (and_right (not (is_gone t client)) _ (and_right (client == client) (same_mode a b) e))

    by_mode : (locks : List Holding) → ((m : Mode) → total t.held client m ≤ times_held locks (holding client s m)) → locks_and_asks t client ≤ 1 → (m : Mode)
        → (m ≡ gives_up) ⊎ (m ≢ gives_up) → (m ≡ mode) ⊎ (m ≢ mode) → (may : Bool) → has_withdraw script client s ≡ may
        → total u.held client m + asks_for u client m
        ≤ times_held (may_still_hold_after script client locks (Change s gives_up mode)) (holding client s m) + (if may then 0 else asks_giving u client m)
    by_mode locks held few m (inl old) (inl new) may e = absurd (differ (sym old ∙ new))
    by_mode locks held few m (inl old) (inr other) true e = omega (
      arith,
      rows client m,
      asks client m,
      none_key m mode other,
      idle_asks client t none m,
      held m,
      changed_stays script client s gives_up mode locks (holding client s m) e higher,
    )
    by_mode locks held few m (inl old) (inr other) false e = omega (
      arith,
      rows client m,
      asks client m,
      none_key m mode other,
      idle_asks client t none m,
      giving client m,
      one_key m gives_up old,
      total_within t.held client m,
      few,
    )
    by_mode locks held few m (inr d) (inl new) may e = omega (
      arith,
      rows client m,
      asks client m,
      one_key m mode new,
      idle_asks client t none m,
      alone t.held client gives_up m (omega (arith, few)) holds (λ f. d (sym f)),
      changed_has script client s gives_up mode locks,
      ap (λ (x : Mode). times_held (may_still_hold_after script client locks (Change s gives_up mode)) (holding client s x)) new,
    )
    by_mode locks held few m (inr d) (inr other) may e = omega (
      arith,
      rows client m,
      asks client m,
      none_key m mode other,
      idle_asks client t none m,
      alone t.held client gives_up m (omega (arith, few)) holds (λ f. d (sym f)),
    )

change_granted : (script : ScriptData) (client s : ℕ) (gives_up mode : Mode) (t : SetState) → IsIdle client t → SomeEach t.held → 1 ≤ total t.held client gives_up
    → ChangeCounts script client s gives_up mode t (given client mode (Some gives_up) t)
change_granted script client s gives_up mode t none some holds = record {
  loans = λ c m d. omega (arith, rows c m, other_rows c m d);
  others = λ c m d. omega (arith, rows c m, other_rows c m d);
  own = λ locks held few marked m. by_mode locks few m (same_or_not m mode);
  few = λ few. omega (arith, few, same_locks);
}
  where
    less : List Row
    less = take_lock t.held client gives_up

    u : SetState
    u = given client mode (Some gives_up) t

    rows : (c : ℕ) (m : Mode) → total (add_lock less client mode) c m ≡ (if is_key c m client mode then total less c m + 1 else total less c m)
    rows c m = total_added less client c mode m

    taken : (c : ℕ) (m : Mode) → total less c m ≡ (if is_key c m client gives_up then total t.held c m - 1 else total t.held c m)
    taken c m = total_taken t.held client c gives_up m (each_some t.held some)

    other_rows : (c : ℕ) (m : Mode) → c ≢ client → (if is_key c m client mode then total less c m + 1 else total less c m) ≡ total t.held c m
    other_rows c m d = ap (λ (b : Bool). if b then total less c m + 1 else total less c m) (not_his c client m mode d) ∙ taken c m
        ∙ ap (λ (b : Bool). if b then total t.held c m - 1 else total t.held c m) (not_his c client m gives_up d)

    same_locks : locks_of (add_lock less client mode) client ≡ locks_of t.held client
    same_locks = omega (arith, locks_added less client client mode, locks_taken t.held client client gives_up some holds)

    own_key : is_key client mode client mode ≡ true
    own_key = (λ i. eq-eqb client client refl i && same_mode mode mode) ∙ has-itself mode

    new_there : 1 ≤ total u.held client mode
    new_there = omega (arith, rows client mode, ap (λ (b : Bool). if b then total less client mode + 1 else total less client mode) own_key)

    by_mode : (locks : List Holding) → locks_and_asks t client ≤ 1 → (m : Mode) → (m ≡ mode) ⊎ (m ≢ mode)
        → total u.held client m + asks_for u client m
        ≤ times_held (may_still_hold_after script client locks (Change s gives_up mode)) (holding client s m) + giving_for_sure script client s u m
    by_mode locks few m (inl is) = omega (
      arith,
      idle_asks client t none m,
      few,
      same_locks,
      total_within u.held client m,
      changed_has script client s gives_up mode locks,
      ap (λ (x : Mode). times_held (may_still_hold_after script client locks (Change s gives_up mode)) (holding client s x)) is,
    )
    by_mode locks few m (inr d) = omega (arith, idle_asks client t none m, alone u.held client mode m (omega (arith, few, same_locks)) new_there (λ f. d (sym f)))

-- nothing is changed where the old mode isn't held, or where the change may be given up
change_stays : (script : ScriptData) (client s : ℕ) (gives_up mode : Mode) (t : SetState) → IsIdle client t
    → ((total t.held client gives_up ≡ 0) ⊎ ((is_gone t client ≡ true) × (covers (one gives_up) mode ≡ false))) → ChangeCounts script client s gives_up mode t t
change_stays script client s gives_up mode t none why = record {
  loans = λ c m d. omega arith;
  others = λ c m d. omega arith;
  own = λ locks held few marked m. by_why locks held marked m why (same_or_not m gives_up);
  few = λ few. few;
}
  where
    other_lock : (m : Mode) → m ≢ gives_up → same_holding (holding client s m) (holding client s gives_up) ≡ false
    other_lock m d = by_test (same_mode m gives_up) refl
      where
        by_test : (same : Bool) → same_mode m gives_up ≡ same → same_holding (holding client s m) (holding client s gives_up) ≡ false
        by_test true e = absurd (d (same_mode-true m gives_up e))
        by_test false e = and_right (client == client) _ (and_right (s == s) (same_mode m gives_up) e)

    by_why : (locks : List Holding) → ((m : Mode) → total t.held client m ≤ times_held locks (holding client s m)) → (is_gone t client ≡ true → has_withdraw script client s ≡ true) → (m : Mode)
        → ((total t.held client gives_up ≡ 0) ⊎ ((is_gone t client ≡ true) × (covers (one gives_up) mode ≡ false))) → (m ≡ gives_up) ⊎ (m ≢ gives_up)
        → total t.held client m + asks_for t client m
        ≤ times_held (may_still_hold_after script client locks (Change s gives_up mode)) (holding client s m) + giving_for_sure script client s t m
    by_why locks held marked m (inl nothing) (inl is) = omega (arith, idle_asks client t none m, nothing, ap (λ (x : Mode). total t.held client x) is)
    by_why locks held marked m (inl nothing) (inr d) =
        omega (arith, idle_asks client t none m, held m, changed_keeps script client s gives_up mode locks (holding client s m) (other_lock m d))
    by_why locks held marked m (inr gone) which =
        omega (arith, idle_asks client t none m, held m, changed_stays script client s gives_up mode locks (holding client s m) (marked gone.0) gone.1)

pub changed_balance : (script : ScriptData) (client s : ℕ) (stamp : Stamp) (gives_up mode : Mode) (t : SetState) → IsIdle client t → SomeEach t.held → AreLive t
    → count_by (is_asks client) t.pending ≤ 1 → ActBalance script client s (Change s gives_up mode) t (changed s stamp client gives_up mode t).state
changed_balance script client s stamp gives_up mode t none some alive single = by_count (count_of t.held client gives_up == 0) refl
  where
    from_counts : (u : SetState) → ChangeCounts script client s gives_up mode t u
        → ((a : Ask) → Contains u.pending a → is_gone u a.client ≡ false
        → (Contains t.pending a × (is_gone t a.client ≡ false)) ⊎ ((a.client ≡ client) × (Change s gives_up mode ≡ command_of s a)))
        → ((c : ℕ) → is_gone u c ≡ true → is_gone t c ≡ true) → ActBalance script client s (Change s gives_up mode) t u
    from_counts u h asks marks = record { loans = h.loans; others = h.others; own = h.own; few = λ few nothing. h.few few; asks = asks; marks = marks }

    some_one : (n : ℕ) → (n == 0) ≡ false → 1 ≤ n
    some_one zero e = cc
    some_one (suc n) e = omega arith

    ask : Ask
    ask = ask_of stamp client mode (Some gives_up) t

    pending : (asked s stamp ask t).state.pending ≡ t.pending ++ ask ∷ []
    pending = (route_same s stamp false (ParkedAsk ask) (record t { pending = t.pending ++ ask ∷ [] })).1.pending

    gone_at : (c : ℕ) → is_gone (asked s stamp ask t).state c ≡ is_gone t c
    gone_at c = ap (λ (l : List ℕ). is_gone (record t { gone = l }) c) (route_gone s stamp false (ParkedAsk ask) (record t { pending = t.pending ++ ask ∷ [] }))

    higher : (count_of t.held client gives_up == 0) ≡ false → can_grant stamp.node t client mode ≡ false → covers (one gives_up) mode ≡ false
    higher held can = by_test (covers (one gives_up) mode) refl
      where
        by_test : (b : Bool) → covers (one gives_up) mode ≡ b → b ≡ false
        by_test false e = refl
        by_test true e = absurd (false≢true (sym can ∙ weaker_granted stamp.node t client gives_up mode e (some_one (count_of t.held client gives_up) held)))

    -- no change that waits was given up
    no_retake : is_gone t client ≡ true → same_wish ask (pending_ask t client) ≡ true → ⊥
    no_retake gone wish =
        let old = same_wish-there ask t wish in
        let same = same_wish-is ask t wish single old.0 old.1 old.2 in
        false≢true (sym (alive old.0 gives_up old.1 (sym same.1)) ∙ ap (is_gone t) old.2 ∙ gone)

    by_wish : covers (one gives_up) mode ≡ false → is_gone t client ≡ true → (again : Bool) → same_wish ask (pending_ask t client) ≡ again
        → ActBalance script client s (Change s gives_up mode) t (if again then answers (Wait client s mode) (record t { gone = left_gone t.gone client }) else answers (Withheld client s mode) t).state
    by_wish up gone true wish = absurd (no_retake gone wish)
    by_wish up gone false wish = from_counts t (change_stays script client s gives_up mode t none (inr (gone, up))) (λ a there live. inl (there, live)) (λ c e. e)

    by_gone : 1 ≤ total t.held client gives_up → covers (one gives_up) mode ≡ false → (gone : Bool) → is_gone t client ≡ gone
        → ActBalance script client s (Change s gives_up mode) t (if gone then retaken s ask t else asked s stamp ask t).state
    by_gone holds up true e = by_wish up e (same_wish ask (pending_ask t client)) refl
    by_gone holds up false e =
        from_counts (asked s stamp ask t).state (change_asked script client s stamp gives_up mode t none holds up e)
        (λ a there live. elim (Contains-push_cases t.pending ask a (subst (λ (l : List Ask). Contains l a) pending there)) [
          | inl old ↦ inl (old, sym (gone_at a.client) ∙ live)
          | inr new ↦ inr (subst (λ (x : Ask). (x.client ≡ client) × (Change s gives_up mode ≡ command_of s x)) new (refl, refl))
        ])
        (λ c f. sym (gone_at c) ∙ f)

    by_test : (count_of t.held client gives_up == 0) ≡ false → 1 ≤ total t.held client gives_up → (can : Bool) → can_grant stamp.node t client mode ≡ can
        → ActBalance script client s (Change s gives_up mode) t (if can then answers (ChangeLine client s gives_up mode) (given client mode (Some gives_up) t) else asked_or_not s stamp ask t).state
    by_test held holds true e = from_counts (given client mode (Some gives_up) t) (change_granted script client s gives_up mode t none some holds) (λ a there live. inl (there, live)) (λ c f. f)
    by_test held holds false e = by_gone holds (higher held e) (is_gone t client) refl

    by_count : (unheld : Bool) → (count_of t.held client gives_up == 0) ≡ unheld
        → ActBalance script client s (Change s gives_up mode) t (if unheld then answers (NotHeld client s gives_up) t else change_held s stamp client gives_up mode t).state
    by_count true e = from_counts t (change_stays script client s gives_up mode t none (inl (none_total t.held client gives_up some e))) (λ a there live. inl (there, live)) (λ c f. f)
    by_count false e =
        by_test e (omega (arith, some_one (count_of t.held client gives_up) e, count_within t.held client gives_up)) (can_grant stamp.node t client mode) refl
