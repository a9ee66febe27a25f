-- What a client that waits for nothing, or that gives up what it waits for, holds and asks for in one set, through its command.
use Rattle.std.proofs.Common.{◌≡◌, ◌≢◌, ℕ, ◌+◌, ◌≤◌, inl, inr, List, [], ◌∷◌, ◌++◌, Option, Some, None, Bool, true, false, refl, sym, ap, subst, arith, ◌∙◌, ◌⊎◌, ◌==◌, ◌&&◌, ◌||◌, not, if◌then◌else◌, Contains, count_by, eq-eqb, ne_eqb, eqb-true}
use Rattle.std.specs.List.{list_any}
use Rattle.std.proofs.lemmas.Bool.{cases_eq, and_left, and_right, and_parts, and_from, false≢true}
use Rattle.lt_modes.specs.declared.mode.Mode.{Mode}
use Rattle.lt_modes.specs.declared.stamp.Stamp.{Stamp}
use Rattle.lt_modes.specs.declared.ask.Ask.{Ask}
use Rattle.lt_modes.specs.declared.parts.Row.{Row}
use Rattle.lt_modes.specs.declared.command.Command.{Command}
use Rattle.lt_modes.specs.declared.command.Command.TheVariants.{Lock, Try, Withdraw}
use Rattle.lt_modes.specs.declared.event.Event.TheVariants.{Try as TryLine}
use Rattle.lt_modes.specs.Modes.{same_mode, add_lock}
use Rattle.lt_modes.specs.Script.{ScriptData}
use Rattle.lt_modes.specs.State.{SetState, ParkedAsk, Made, same_choice}
use Rattle.lt_modes.specs.Waiting.{pending_ask, waits}
use Rattle.lt_modes.specs.Granting.{can_grant}
use Rattle.lt_modes.specs.Serving.{is_gone, without_gone as left_gone}
use Rattle.lt_modes.specs.SetMove.{answers, given, granted, ask_of, asked, locked, tried, asked_or_not, same_wish, withdrawn}
use Rattle.lt_spec.specs.Holdings.{holding, same_holding}
use Rattle.lt_modes.proofs.ModeAlgebra.{has-itself, same_mode-true}
use Rattle.lt_model.proofs.Voids.{asks_ways, withdraws_ways}
use Rattle.lt_law_accounts.proofs.RowTotals.{total, is_key, total_added}
use Rattle.lt_law_invariant.proofs.OwnSteps.{route_same}
use Rattle.lt_lists.proofs.Sums.{counted_in, sum_by-zero}
use Rattle.lt_law_invariant.proofs.ClientCounts.{asks_pushed}
use Rattle.lt_law_invariant.proofs.ClientCommands.{IsIdle, idle_live, find_is}
use Rattle.lt_law_invariant.proofs.ClientEffects.{is_asks, gone_same, route_gone, one_of_client}
use Rattle.lt_law_lines.proofs.LineCounts.{count_after}
use Rattle.lt_law_lines.proofs.LineRules.{key_is}
use Rattle.lt_spec.specs.Ordered.{best_answer}
use Rattle.lt_law_ordered.proofs.Loans.{is_for, asks_for, for_live, for_fewer, Loans, no_more, same_loans}

-- a client that waits for nothing asks for no mode
pub idle_asks : (client : ℕ) (t : SetState) → IsIdle client t → (mode : Mode) → asks_for t client mode ≡ 0
idle_asks client t none mode = omega (arith, none, for_live (is_gone t client) client mode t.pending)

-- what a command of such a client does to what it and others hold and ask for in set s
pub record ActLoans (script : ScriptData) (client s : ℕ) (command : Command) (t u : SetState) : Type 0 where
  pub others : (c : ℕ) (mode : Mode) → c ≢ client → (asks_for u c mode ≤ asks_for t c mode) × (total u.held c mode + asks_for u c mode ≤ total t.held c mode + asks_for t c mode)
  pub own : (mode : Mode) → total u.held client mode + asks_for u client mode ≤ count_after script (holding client s mode) (total t.held client mode) (best_answer client command)
  pub asks : (mode : Mode) → 1 ≤ asks_for u client mode → command ≡ Lock s mode

-- and then the end of the move
pub act_then : (script : ScriptData) (client s : ℕ) (command : Command) (t u v : SetState) → ActLoans script client s command t u → Loans u v → ActLoans script client s command t v
act_then script client s command t u v first later = record {
  others = λ c mode d. (omega (arith, (first.others c mode d).0, later.asks c mode), omega (arith, (first.others c mode d).1, later.counts c mode));
  own = λ mode. omega (arith, first.own mode, later.counts client mode);
  asks = λ mode some. first.asks mode (omega (arith, some, later.asks client mode));
}

-- rows, asks and marks as they were, where the command counts no lock less
pub act_stays : (script : ScriptData) (client s : ℕ) (command : Command) (t u : SetState) → IsIdle client t → u.held ≡ t.held → u.pending ≡ t.pending → u.gone ≡ t.gone
    → ((mode : Mode) → total t.held client mode ≤ count_after script (holding client s mode) (total t.held client mode) (best_answer client command))
    → ActLoans script client s command t u
act_stays script client s command t u none held pending gone counts = record {
  others = λ c mode d. (omega (arith, (same.asks c mode)), omega (arith, same.counts c mode));
  own = λ mode. omega (arith, same.counts client mode, idle_asks client t none mode, counts mode);
  asks = λ mode some. absurd (omega (arith, some, same.asks client mode, idle_asks client t none mode));
}
  where
    same : Loans t u
    same = same_loans t t u held pending gone (no_more t)

-- a lock of this client is none of another one
pub not_his : (c client : ℕ) (mode m : Mode) → c ≢ client → is_key c mode client m ≡ false
not_his c client mode m d = and_left (c == client) (same_mode mode m) (ne_eqb c client d)

-- a grant counts what it says, or more than before
pub grant_more : (script : ScriptData) (client s set : ℕ) (mode m : Mode) (n : ℕ) → n ≤ (if same_holding (holding client s m) (holding client set mode) then n + 1 else n)
grant_more script client s set mode m n = by_same (same_holding (holding client s m) (holding client set mode))
  where
    by_same : (same : Bool) → n ≤ (if same then n + 1 else n)
    by_same true = omega arith
    by_same false = omega arith

-- one lock more of the client
act_granted : (script : ScriptData) (client s : ℕ) (mode : Mode) (command : Command) (t u : SetState) → IsIdle client t → u.held ≡ add_lock t.held client mode → u.pending ≡ t.pending → u.gone ≡ t.gone
    → ((m : Mode) → count_after script (holding client s m) (total t.held client m) (best_answer client command) ≡ (if same_holding (holding client s m) (holding client s mode) then total t.held client m + 1 else total t.held client m))
    → ActLoans script client s command t u
act_granted script client s mode command t u none held pending gone counts = record {
  others = λ c m d. (
    omega (arith, asks c m),
    omega (arith, asks c m, rows c m, ap (λ (b : Bool). if b then total t.held c m + 1 else total t.held c m) (not_his c client m mode d)),
  );
  own = λ m. omega (arith, asks client m, idle_asks client t none m, rows client m, counts m, ap (λ (b : Bool). if b then total t.held client m + 1 else total t.held client m) (key_is client client s m mode));
  asks = λ m some. absurd (omega (arith, some, asks client m, idle_asks client t none m));
}
  where
    asks : (c : ℕ) (m : Mode) → asks_for u c m ≡ asks_for t c m
    asks c m = λ i. count_by (is_for (list_any (λ other. other == c) (gone i)) c m) (pending i)

    rows : (c : ℕ) (m : Mode) → total u.held c m ≡ (if is_key c m client mode then total t.held c m + 1 else total t.held c m)
    rows c m = ap (λ (l : List Row). total l c m) held ∙ total_added t.held client c mode m

-- one ask more of the client
act_asked : (script : ScriptData) (client s : ℕ) (stamp : Stamp) (mode : Mode) (t : SetState) → IsIdle client t → is_gone t client ≡ false
    → ActLoans script client s (Lock s mode) t (asked s stamp (ask_of stamp client mode None t) t).state
act_asked script client s stamp mode t none free = record {
  others = λ c m d.
      let nothing : ◌≡◌ {A = ℕ} (if not (is_gone t c) && is_key c m client mode then 1 else 0) 0 =
      ap (λ (b : Bool). if b then 1 else 0) (and_right (not (is_gone t c)) _ (not_his c client m mode d)) in (
        omega (arith, asks c m, nothing),
        omega (arith, asks c m, nothing, rows c m),
      );
  own = λ m. by_key m (is_key client m client mode) (own_asks m) (key_is client client s m mode);
  asks = λ m some. by_own m some (is_key client m client mode) refl (own_asks m);
}
  where
    ask : Ask
    ask = ask_of stamp client mode None t

    more : SetState
    more = record t { pending = t.pending ++ ask ∷ [] }

    u : SetState
    u = (asked s stamp ask t).state

    same : (c : ℕ) (m : Mode) → asks_for u c m ≡ asks_for more c m
    same c m = λ i. count_by (is_for (list_any (λ other. other == c) (route_gone s stamp false (ParkedAsk ask) more i)) c m) ((route_same s stamp false (ParkedAsk ask) more).1.pending i)

    asks : (c : ℕ) (m : Mode) → asks_for u c m ≡ asks_for t c m + (if not (is_gone t c) && is_key c m client mode then 1 else 0)
    asks c m = same c m ∙ asks_pushed (is_for (is_gone t c) c m) t.pending ask

    own_asks : (m : Mode) → asks_for u client m ≡ asks_for t client m + (if is_key client m client mode then 1 else 0)
    own_asks m = asks client m ∙ ap (λ (g : Bool). asks_for t client m + (if not g && is_key client m client mode then 1 else 0)) free

    rows : (c : ℕ) (m : Mode) → total u.held c m ≡ total t.held c m
    rows c m = ap (λ (l : List Row). total l c m) (route_same s stamp false (ParkedAsk ask) more).1.held

    by_key : (m : Mode) (key : Bool) → asks_for u client m ≡ asks_for t client m + (if key then 1 else 0) → same_holding (holding client s m) (holding client s mode) ≡ key
        → total u.held client m + asks_for u client m ≤ (if same_holding (holding client s m) (holding client s mode) then total t.held client m + 1 else total t.held client m)
    by_key m true e same = omega (arith, e, idle_asks client t none m, rows client m, ap (λ (b : Bool). if b then total t.held client m + 1 else total t.held client m) same)
    by_key m false e same = omega (arith, e, idle_asks client t none m, rows client m, ap (λ (b : Bool). if b then total t.held client m + 1 else total t.held client m) same)

    by_own : (m : Mode) → 1 ≤ asks_for u client m → (key : Bool) → is_key client m client mode ≡ key → asks_for u client m ≡ asks_for t client m + (if key then 1 else 0) → Lock s mode ≡ Lock s m
    by_own m some true e more = ap (Lock s) (sym (same_mode-true m mode (and_parts (client == client) (same_mode m mode) e).1))
    by_own m some false e more = absurd (omega (arith, some, more, idle_asks client t none m))

-- an ask of the client that wants the same is live again
act_retaken : (script : ScriptData) (client s : ℕ) (stamp : Stamp) (mode : Mode) (t : SetState) → IsIdle client t → count_by (is_asks client) t.pending ≤ 1
    → same_wish (ask_of stamp client mode None t) (pending_ask t client) ≡ true → ActLoans script client s (Lock s mode) t (record t { gone = left_gone t.gone client })
act_retaken script client s stamp mode t none one wish = record {
  others = λ c m d.
      let same : asks_for u c m ≡ asks_for t c m = ap (λ (g : Bool). count_by (is_for g c m) t.pending) (gone_same t.gone client c d) in
      (omega (arith, same), omega (arith, same));
  own = λ m. by_key m (same_holding (holding client s m) (holding client s mode)) (sym (key_is client client s m mode)) (cases_eq (asks_for u client m) 0);
  asks = λ m some. ap (Lock s) (sym (wanted m some));
}
  where
    u : SetState
    u = record t { gone = left_gone t.gone client }

    few : (m : Mode) → asks_for u client m ≤ 1
    few m = omega (arith, one, for_fewer (is_gone u client) client m t.pending)

    second : (gone own : Bool) → (not gone && own) ≡ true → own ≡ true
    second true own e = cc
    second false own e = e

    -- its only ask wants the mode
    wanted : (m : Mode) → 1 ≤ asks_for u client m → m ≡ mode
    wanted m some = by_ask (pending_ask t client) refl
      where
        found : (b : Ask) × Contains t.pending b × (is_for (is_gone u client) client m b ≡ true)
        found = counted_in (is_for (is_gone u client) client m) t.pending some

        keys : ((client == found.0.client) ≡ true) × (same_mode m found.0.mode ≡ true)
        keys = and_parts (client == found.0.client) _ (second (is_gone u client) _ found.2)

        by_ask : (o : Option Ask) → pending_ask t client ≡ o → m ≡ mode
        by_ask None e = absurd (false≢true (ap (same_wish (ask_of stamp client mode None t)) (sym e) ∙ wish))
        by_ask (Some old) e =
            let first = find_is (λ (x : Ask). x.client == client) t.pending old e in
            let theirs = eqb-true old.client client first.1 in
            let own = eqb-true client found.0.client keys.0 in
            let is : old ≡ found.0 = one_of_client t.pending old found.0 (subst (λ (c : ℕ). count_by (is_asks c) t.pending ≤ 1) (sym theirs) one) first.0 found.1 (sym own ∙ sym theirs) in
            let parts = and_parts (same_mode mode old.mode) (same_choice None old.gives_up) (ap (same_wish (ask_of stamp client mode None t)) (sym e) ∙ wish) in
            same_mode-true m found.0.mode keys.1 ∙ ap (λ (a : Ask). a.mode) (sym is) ∙ sym (same_mode-true mode old.mode parts.0)

    by_key : (m : Mode) (same : Bool) → is_key client m client mode ≡ same → (asks_for u client m ≡ 0) ⊎ (asks_for u client m ≢ 0)
        → total t.held client m + asks_for u client m ≤ (if same then total t.held client m + 1 else total t.held client m)
    by_key m true e asks = omega (arith, few m)
    by_key m false e (inl nothing) = omega (arith, nothing)
    by_key m false e (inr some) = absurd (false≢true (sym e ∙ and_from _ _ (eq-eqb client client refl) (ap (same_mode m) (sym (wanted m (omega (arith, some)))) ∙ has-itself m)))

pub locked_loans : (script : ScriptData) (client s : ℕ) (stamp : Stamp) (mode : Mode) (t : SetState) → IsIdle client t → count_by (is_asks client) t.pending ≤ 1
    → ActLoans script client s (Lock s mode) t (locked s stamp client mode t).state
locked_loans script client s stamp mode t none one = by_test (can_grant stamp.node t client mode)
  where
    by_test : (can : Bool) → ActLoans script client s (Lock s mode) t (if can then granted s client mode t else asked_or_not s stamp (ask_of stamp client mode None t) t).state
    by_test true = act_granted script client s mode (Lock s mode) t (granted s client mode t).state none refl refl refl (λ m. refl)
    by_test false = asks_ways (λ (m : Made). ActLoans script client s (Lock s mode) t m.state) s stamp (ask_of stamp client mode None t) t
        (λ free. act_asked script client s stamp mode t none free)
        (λ gone wish. act_retaken script client s stamp mode t none one wish)
        (act_stays script client s (Lock s mode) t t none refl refl refl (λ m. grant_more script client s s mode m (total t.held client m)))

pub tried_loans : (script : ScriptData) (client s : ℕ) (stamp : Stamp) (mode : Mode) (t : SetState) → IsIdle client t
    → ActLoans script client s (Try s mode) t (tried s stamp client mode t).state
tried_loans script client s stamp mode t none = by_test (can_grant stamp.node t client mode)
  where
    by_test : (can : Bool) → ActLoans script client s (Try s mode) t (if can then answers (TryLine client s mode true) (given client mode None t) else answers (TryLine client s mode false) t).state
    by_test true = act_granted script client s mode (Try s mode) t (given client mode None t) none refl refl refl (λ m. refl)
    by_test false = act_stays script client s (Try s mode) t t none refl refl refl (λ m. grant_more script client s s mode m (total t.held client m))

-- a `withdraw`, of what another client or the client itself waits for
pub withdrawn_loans : (script : ScriptData) (client other s : ℕ) (t : SetState) → (other ≢ client → IsIdle client t)
    → ActLoans script client s (Withdraw other s) t (withdrawn s client other t).state
withdrawn_loans script client other s t idle_if = withdraws_ways (λ (m : Made). ActLoans script client s (Withdraw other s) t m.state) s client other t
    (λ waiting. record {
      others = λ c m d. (omega (arith, less c m), omega (arith, less c m));
      own = λ m. omega (arith, none m);
      asks = λ m some. absurd (omega (arith, some, none m));
    })
    (λ idle_there. act_stays script client s (Withdraw other s) t t (idle idle_there) refl refl refl (λ m. omega arith))
  where
    u : SetState
    u = record t { gone = other ∷ t.gone }

    nothing : (c : ℕ) (m : Mode) → count_by (is_for true c m) t.pending ≡ 0
    nothing c m = sum_by-zero (λ (ask : Ask). 0) t.pending (λ i d within. refl)

    less : (c : ℕ) (m : Mode) → asks_for u c m ≤ asks_for t c m
    less c m = by_own (other == c)
      where
        by_own : (own : Bool) → count_by (is_for (own || is_gone t c) c m) t.pending ≤ asks_for t c m
        by_own true = omega (arith, nothing c m)
        by_own false = omega arith

    none : (m : Mode) → asks_for u client m ≡ 0
    none m = elim (cases_eq other client) [
      | inl same ↦ ap (λ (own : Bool). count_by (is_for (own || is_gone t client) client m) t.pending) (eq-eqb other client same) ∙ nothing client m
      | inr d ↦ omega (arith, less client m, idle_asks client t (idle_if d) m)
    ]

    idle : waits t other ≡ false → IsIdle client t
    idle idle_there = elim (cases_eq other client) [
      | inl same ↦ subst (λ (c : ℕ). IsIdle c t) same (idle_live t other idle_there)
      | inr d ↦ idle_if d
    ]
