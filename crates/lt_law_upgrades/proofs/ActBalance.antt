-- What a client that waits for nothing holds, asks for and gives up in one set, through its command.
use Rattle.std.proofs.Common.{◌≡◌, ◌≢◌, ℕ, ◌+◌, ◌≤◌, inl, inr, List, [], ◌∷◌, ◌++◌, Option, Some, None, Bool, true, false, refl, sym, ap, subst, arith, ◌∙◌, ◌⊎◌, ◌==◌, ◌&&◌, not, if◌then◌else◌, Contains, IsTrue, count_by}
use Rattle.std.proofs.lemmas.Bool.{cases_eq}
use Rattle.std.proofs.lemmas.List.Elements.{Contains-push_cases}
use Rattle.lt_modes.specs.declared.mode.Mode.{Mode}
use Rattle.lt_modes.specs.declared.stamp.Stamp.{Stamp}
use Rattle.lt_modes.specs.declared.ask.Ask.{Ask}
use Rattle.lt_modes.specs.declared.command.Command.{Command}
use Rattle.lt_modes.specs.declared.command.Command.TheVariants.{Lock, Try, Unlock, Change, DropAll}
use Rattle.lt_modes.specs.declared.event.Event.TheVariants.{Try as TryLine, Unlock as UnlockLine, NotHeld}
use Rattle.lt_modes.specs.Modes.{count_of, take_lock}
use Rattle.lt_modes.specs.Script.{ScriptData}
use Rattle.lt_modes.specs.State.{SetState, ParkedAsk, Made}
use Rattle.lt_modes.specs.Granting.{can_grant}
use Rattle.lt_modes.specs.Serving.{is_gone, without_gone as left_gone}
use Rattle.lt_modes.specs.SetMove.{answers, given, granted, ask_of, asked, asked_or_not, locked, tried, unlocked, dropped, same_wish}
use Rattle.lt_modes.specs.Waiting.{pending_ask}
use Rattle.lt_spec.specs.Holdings.{Holding, holding, times_held}
use Rattle.lt_law_accounts.proofs.RowTotals.{total}
use Rattle.lt_model.proofs.Voids.{asks_ways}
use Rattle.lt_law_invariant.proofs.OwnSteps.{route_same}
use Rattle.lt_law_invariant.proofs.ClientCounts.{SomeEach, asks_pushed, locks_dropped, locks_fewer}
use Rattle.lt_law_invariant.proofs.ClientCommands.{IsIdle}
use Rattle.lt_law_invariant.proofs.ClientEffects.{gone_same, is_asks, route_gone}
use Rattle.lt_spec.specs.Ordered.{may_hold_after}
use Rattle.lt_law_ordered.specs.OrderedLaws.{is_steady}
use Rattle.lt_law_ordered.proofs.Loans.{asks_for}
use Rattle.lt_law_ordered.proofs.ActLoans.{ActLoans, idle_asks, locked_loans, tried_loans}
use Rattle.lt_law_ordered.proofs.ChangeLoans.{unlocked_loans, dropped_loans}
use Rattle.lt_law_ordered.proofs.MayHold.{count_grows, may_count}
use Rattle.lt_law_upgrades.specs.UpgradeLaws.{has_withdraw, may_still_hold_after}
use Rattle.lt_law_upgrades.proofs.LiveAsks.{gives, is_giving, asks_giving, locks_and_asks, none_giving, gone_fewer, same_wish-is}
use Rattle.lt_law_upgrades.proofs.Balance.{Balance}

-- the command by which a client makes the ask
abbrev pub command_by : ℕ → Mode → Option Mode → Command
command_by s mode None = Lock s mode
command_by s mode (Some gives_up) = Change s gives_up mode

abbrev pub command_of : ℕ → Ask → Command
command_of s ask = command_by s ask.mode ask.gives_up

-- what the client's asks give up counts where the old lock can't stay
abbrev pub giving_for_sure : ScriptData → ℕ → ℕ → SetState → Mode → ℕ
giving_for_sure script client s t mode = if has_withdraw script client s then 0 else asks_giving t client mode

-- what a command of an idle client does to what it and others hold, ask for and give up in set s
pub record ActBalance (script : ScriptData) (client s : ℕ) (command : Command) (t u : SetState) : Type 0 where
  pub loans : (c : ℕ) (mode : Mode) → c ≢ client → total u.held c mode + asks_for u c mode ≤ total t.held c mode + asks_for t c mode
  pub others : (c : ℕ) (mode : Mode) → c ≢ client
      → total u.held c mode + asks_for u c mode + asks_giving t c mode ≤ total t.held c mode + asks_for t c mode + asks_giving u c mode
  pub own : (locks : List Holding) → ((mode : Mode) → total t.held client mode ≤ times_held locks (holding client s mode)) → locks_and_asks t client ≤ 1
      → (is_gone t client ≡ true → has_withdraw script client s ≡ true) → (mode : Mode)
      → total u.held client mode + asks_for u client mode
      ≤ times_held (may_still_hold_after script client locks command) (holding client s mode) + giving_for_sure script client s u mode
  pub few : locks_and_asks t client ≤ 1 → ((mode : Mode) → (command ≡ Lock s mode) ⊎ (command ≡ Try s mode) → locks_and_asks t client ≡ 0) → locks_and_asks u client ≤ 1
  pub asks : (ask : Ask) → Contains u.pending ask → is_gone u ask.client ≡ false
      → (Contains t.pending ask × (is_gone t ask.client ≡ false)) ⊎ ((ask.client ≡ client) × (command ≡ command_of s ask))
  pub marks : (c : ℕ) → is_gone u c ≡ true → is_gone t c ≡ true

-- and then the end of the move
pub balance_then : (script : ScriptData) (client s : ℕ) (command : Command) (t u v : SetState) → ActBalance script client s command t u → Balance u v → ActBalance script client s command t v
balance_then script client s command t u v first later = record {
  loans = λ c mode d. omega (arith, first.loans c mode d, later.counts c mode, later.gives c mode);
  others = λ c mode d. omega (arith, first.others c mode d, later.counts c mode);
  own = λ locks held one marked mode.
      omega (arith, first.own locks held one marked mode, later_own mode (times_held (may_still_hold_after script client locks command) (holding client s mode)) (has_withdraw script client s));
  few = λ one none. omega (arith, first.few one none, later.clients.counts client);
  asks = λ ask there live. let before = later.asks ask there live in first.asks ask before.0 before.1;
  marks = λ c e. first.marks c (later.marks c e);
}
  where
    later_own : (mode : Mode) (n : ℕ) (w : Bool) → total v.held client mode + asks_for v client mode + (if w then 0 else asks_giving u client mode)
        ≤ total u.held client mode + asks_for u client mode + (if w then 0 else asks_giving v client mode)
    later_own mode n true = omega (arith, later.counts client mode, later.gives client mode)
    later_own mode n false = later.counts client mode

-- a command that makes no ask that gives up a mode
from_loans : (script : ScriptData) (client s : ℕ) (command : Command) (t u : SetState) → IsTrue (is_steady command)
    → ((locks : List Holding) → may_still_hold_after script client locks command ≡ may_hold_after script client locks command) → ActLoans script client s command t u
    → ((c : ℕ) (mode : Mode) → asks_giving u c mode ≡ asks_giving t c mode)
    → (locks_and_asks t client ≤ 1 → ((mode : Mode) → (command ≡ Lock s mode) ⊎ (command ≡ Try s mode) → locks_and_asks t client ≡ 0) → locks_and_asks u client ≤ 1)
    → ((ask : Ask) → Contains u.pending ask → is_gone u ask.client ≡ false
    → (Contains t.pending ask × (is_gone t ask.client ≡ false)) ⊎ ((ask.client ≡ client) × (command ≡ command_of s ask)))
    → ((c : ℕ) → is_gone u c ≡ true → is_gone t c ≡ true) → ActBalance script client s command t u
from_loans script client s command t u steady plain h same few asks marks = record {
  loans = λ c mode d. (h.others c mode d).1;
  others = λ c mode d. omega (arith, (h.others c mode d).1, same c mode);
  own = λ locks held one marked mode. omega (
    arith,
    h.own mode,
    count_grows script client (holding client s mode) (total t.held client mode) (times_held locks (holding client s mode)) command steady (held mode),
    may_count script client (holding client s mode) locks command,
    ap (λ (l : List Holding). times_held l (holding client s mode)) (plain locks),
  );
  few = few;
  asks = asks;
  marks = marks;
}

-- nothing is given up by a new ask, nor by one that is taken up again
locked_giving : (client s : ℕ) (stamp : Stamp) (mode : Mode) (t : SetState) → count_by (is_asks client) t.pending ≤ 1 → (c : ℕ) (m : Mode)
    → asks_giving (locked s stamp client mode t).state c m ≡ asks_giving t c m
locked_giving client s stamp mode t one c m = by_test (can_grant stamp.node t client mode)
  where
    ask : Ask
    ask = ask_of stamp client mode None t

    more : SetState
    more = record t { pending = t.pending ++ ask ∷ [] }

    no_key : (a b : Bool) → ◌≡◌ {A = ℕ} (if a && (b && false) then 1 else 0) 0
    no_key true true = refl
    no_key true false = refl
    no_key false b = refl

    again : SetState
    again = record t { gone = left_gone t.gone client }

    retaken : same_wish ask (pending_ask t client) ≡ true → (c ≡ client) ⊎ (c ≢ client) → is_gone t client ≡ true → asks_giving again c m ≡ asks_giving t c m
    retaken wish (inr d) gone = ap (λ (g : Bool). count_by (is_giving g c m) t.pending) (gone_same t.gone client c d)
    retaken wish (inl e) gone = omega (
      arith,
      none_giving again c m (λ b there live own g. none_given b (same_wish-is ask t wish one b there (own ∙ e)).1 g),
      none_giving t c m (λ b there live own g. false_true (sym live ∙ ap (is_gone t) (own ∙ e) ∙ gone)),
    )
      where
        false_true : false ≡ true → ⊥
        false_true x = cc

        none_given : (b : Ask) → None ≡ b.gives_up → gives b.gives_up m ≡ true → ⊥
        none_given b x g = false_true (ap (λ (o : Option Mode). gives o m) x ∙ g)

    by_test : (can : Bool) → asks_giving (if can then granted s client mode t else asked_or_not s stamp ask t).state c m ≡ asks_giving t c m
    by_test true = refl
    by_test false = asks_ways (λ (made : Made). asks_giving made.state c m ≡ asks_giving t c m) s stamp ask t
        (λ live. (λ i. count_by (is_giving (is_gone_at i) c m) ((route_same s stamp false (ParkedAsk ask) more).1.pending i))
        ∙ asks_pushed (is_giving (is_gone t c) c m) t.pending ask ∙ omega (arith, no_key (not (is_gone t c)) (c == client)))
        (λ gone wish. retaken wish (cases_eq c client) gone) refl
      where
        is_gone_at : is_gone (asked s stamp ask t).state c ≡ is_gone t c
        is_gone_at = ap (λ (l : List ℕ). is_gone (record t { gone = l }) c) (route_gone s stamp false (ParkedAsk ask) more)

-- the live asks after an ask, or after one was taken up again
locked_asks : (client s : ℕ) (stamp : Stamp) (mode : Mode) (t : SetState) → count_by (is_asks client) t.pending ≤ 1 → (a : Ask)
    → Contains (locked s stamp client mode t).state.pending a → is_gone (locked s stamp client mode t).state a.client ≡ false
    → (Contains t.pending a × (is_gone t a.client ≡ false)) ⊎ ((a.client ≡ client) × (Lock s mode ≡ command_of s a))
locked_asks client s stamp mode t one a = by_test (can_grant stamp.node t client mode)
  where
    ask : Ask
    ask = ask_of stamp client mode None t

    more : SetState
    more = record t { pending = t.pending ++ ask ∷ [] }

    by_client : (c : ℕ) → a.client ≡ c → (a.client ≡ client) ⊎ (a.client ≢ client) → same_wish ask (pending_ask t client) ≡ true → Contains t.pending a
        → is_gone (record t { gone = left_gone t.gone client }) a.client ≡ false
        → (Contains t.pending a × (is_gone t a.client ≡ false)) ⊎ ((a.client ≡ client) × (Lock s mode ≡ command_of s a))
    by_client c e (inl own) wish there live =
        let same = same_wish-is ask t wish one a there own in
        inr (own, λ i. command_by s (same.0 i) (same.1 i))
    by_client c e (inr d) wish there live = inl (there, sym (gone_same t.gone client a.client d) ∙ live)

    by_test : (can : Bool) → Contains (if can then granted s client mode t else asked_or_not s stamp ask t).state.pending a
        → is_gone (if can then granted s client mode t else asked_or_not s stamp ask t).state a.client ≡ false
        → (Contains t.pending a × (is_gone t a.client ≡ false)) ⊎ ((a.client ≡ client) × (Lock s mode ≡ command_of s a))
    by_test true there live = inl (there, live)
    by_test false there live = asks_ways (λ (made : Made). Contains made.state.pending a → is_gone made.state a.client ≡ false
        → (Contains t.pending a × (is_gone t a.client ≡ false)) ⊎ ((a.client ≡ client) × (Lock s mode ≡ command_of s a))) s stamp ask t
        (λ free found lives. elim (Contains-push_cases t.pending ask a (subst (λ (l : List Ask). Contains l a) (route_same s stamp false (ParkedAsk ask) more).1.pending found)) [
          | inl old ↦ inl (old, sym (ap (λ (l : List ℕ). is_gone (record t { gone = l }) a.client) (route_gone s stamp false (ParkedAsk ask) more)) ∙ lives)
          | inr new ↦ inr (subst (λ (x : Ask). (x.client ≡ client) × (Lock s mode ≡ command_of s x)) new (refl, refl))
        ])
        (λ gone wish found lives. by_client a.client refl (cases_eq a.client client) wish found lives)
        (λ found lives. inl (found, lives)) there live

-- no mark is new after an ask
pub asks_mark : (s : ℕ) (stamp : Stamp) (ask : Ask) (t : SetState) (c : ℕ) → is_gone (asked_or_not s stamp ask t).state c ≡ true → is_gone t c ≡ true
asks_mark s stamp ask t c e = asks_ways (λ (made : Made). is_gone made.state c ≡ true → is_gone t c ≡ true) s stamp ask t
    (λ live f. sym (ap (λ (l : List ℕ). is_gone (record t { gone = l }) c) (route_gone s stamp false (ParkedAsk ask) (record t { pending = t.pending ++ ask ∷ [] }))) ∙ f)
    (λ gone wish f. gone_fewer t.gone ask.client c f) (λ f. f) e

-- one lock or new ask more of a client that had none
one_more : (n m : ℕ) → m ≤ n + 1 → n ≡ 0 → m ≤ 1
one_more n m more none = omega (arith, more, none)

pub locked_balance : (script : ScriptData) (client s : ℕ) (stamp : Stamp) (mode : Mode) (t : SetState) → IsIdle client t → count_by (is_asks client) t.pending ≤ 1
    → locks_and_asks (locked s stamp client mode t).state client ≤ locks_and_asks t client + 1
    → ActBalance script client s (Lock s mode) t (locked s stamp client mode t).state
locked_balance script client s stamp mode t none one more =
    from_loans script client s (Lock s mode) t (locked s stamp client mode t).state refl (λ locks. refl) (locked_loans script client s stamp mode t none one)
    (locked_giving client s stamp mode t one)
    (λ few nothing. one_more (locks_and_asks t client) (locks_and_asks (locked s stamp client mode t).state client) more (nothing mode (inl refl)))
    (locked_asks client s stamp mode t one) (by_marks (can_grant stamp.node t client mode))
  where
    by_marks : (can : Bool) (c : ℕ) → is_gone (if can then granted s client mode t else asked_or_not s stamp (ask_of stamp client mode None t) t).state c ≡ true → is_gone t c ≡ true
    by_marks true c e = e
    by_marks false c e = asks_mark s stamp (ask_of stamp client mode None t) t c e

pub tried_balance : (script : ScriptData) (client s : ℕ) (stamp : Stamp) (mode : Mode) (t : SetState) → IsIdle client t
    → locks_and_asks (tried s stamp client mode t).state client ≤ locks_and_asks t client + 1
    → ActBalance script client s (Try s mode) t (tried s stamp client mode t).state
tried_balance script client s stamp mode t none more =
    from_loans script client s (Try s mode) t (tried s stamp client mode t).state refl (λ locks. refl) (tried_loans script client s stamp mode t none)
    (λ c m. same c m (can_grant stamp.node t client mode))
    (λ few nothing. one_more (locks_and_asks t client) (locks_and_asks (tried s stamp client mode t).state client) more (nothing mode (inr refl)))
    (by_asks (can_grant stamp.node t client mode)) (by_marks (can_grant stamp.node t client mode))
  where
    same : (c : ℕ) (m : Mode) (can : Bool) → asks_giving (if can then answers (TryLine client s mode true) (given client mode None t) else answers (TryLine client s mode false) t).state c m ≡ asks_giving t c m
    same c m true = refl
    same c m false = refl

    by_asks : (can : Bool) (a : Ask) → Contains (if can then answers (TryLine client s mode true) (given client mode None t) else answers (TryLine client s mode false) t).state.pending a
        → is_gone (if can then answers (TryLine client s mode true) (given client mode None t) else answers (TryLine client s mode false) t).state a.client ≡ false
        → (Contains t.pending a × (is_gone t a.client ≡ false)) ⊎ ((a.client ≡ client) × (Try s mode ≡ command_of s a))
    by_asks true a there live = inl (there, live)
    by_asks false a there live = inl (there, live)

    by_marks : (can : Bool) (c : ℕ) → is_gone (if can then answers (TryLine client s mode true) (given client mode None t) else answers (TryLine client s mode false) t).state c ≡ true → is_gone t c ≡ true
    by_marks true c e = e
    by_marks false c e = e

pub unlocked_balance : (script : ScriptData) (client s : ℕ) (mode : Mode) (t : SetState) → IsIdle client t → SomeEach t.held
    → ActBalance script client s (Unlock s mode) t (unlocked s client mode t).state
unlocked_balance script client s mode t none some =
    from_loans script client s (Unlock s mode) t (unlocked s client mode t).state refl (λ locks. refl) (unlocked_loans script client s mode t none some)
    (λ c m. same c m (count_of t.held client mode == 0)) (λ few nothing. omega (arith, few, fewer (count_of t.held client mode == 0)))
    (by_asks (count_of t.held client mode == 0)) (by_marks (count_of t.held client mode == 0))
  where
    same : (c : ℕ) (m : Mode) (unheld : Bool)
        → asks_giving (if unheld then answers (NotHeld client s mode) t else answers (UnlockLine client s mode) (record t { held = take_lock t.held client mode })).state c m ≡ asks_giving t c m
    same c m true = refl
    same c m false = refl

    fewer : (unheld : Bool)
        → locks_and_asks (if unheld then answers (NotHeld client s mode) t else answers (UnlockLine client s mode) (record t { held = take_lock t.held client mode })).state client ≤ locks_and_asks t client
    fewer true = omega arith
    fewer false = omega (arith, locks_fewer t.held client client mode)

    by_asks : (unheld : Bool) (a : Ask) → Contains (if unheld then answers (NotHeld client s mode) t else answers (UnlockLine client s mode) (record t { held = take_lock t.held client mode })).state.pending a
        → is_gone (if unheld then answers (NotHeld client s mode) t else answers (UnlockLine client s mode) (record t { held = take_lock t.held client mode })).state a.client ≡ false
        → (Contains t.pending a × (is_gone t a.client ≡ false)) ⊎ ((a.client ≡ client) × (Unlock s mode ≡ command_of s a))
    by_asks true a there live = inl (there, live)
    by_asks false a there live = inl (there, live)

    by_marks : (unheld : Bool) (c : ℕ)
        → is_gone (if unheld then answers (NotHeld client s mode) t else answers (UnlockLine client s mode) (record t { held = take_lock t.held client mode })).state c ≡ true → is_gone t c ≡ true
    by_marks true c e = e
    by_marks false c e = e

pub dropped_balance : (script : ScriptData) (client s other set : ℕ) (t : SetState) → IsIdle client t → ActBalance script client s (DropAll other set) t (dropped other t)
dropped_balance script client s other set t none =
    from_loans script client s (DropAll other set) t (dropped other t) refl (λ locks. refl) (dropped_loans script client s other set t none) (λ c m. refl)
    (λ few nothing. omega (arith, few, locks_dropped t.held other client)) (λ a there live. inl (there, live)) (λ c e. e)

-- a set that a command doesn't touch
pub aside_balance : (script : ScriptData) (client s : ℕ) (command : Command) (t : SetState) → IsIdle client t
    → ((locks : List Holding) (mode : Mode) → times_held locks (holding client s mode) ≤ times_held (may_still_hold_after script client locks command) (holding client s mode))
    → ActBalance script client s command t t
aside_balance script client s command t none counts = record {
  loans = λ c mode d. omega arith;
  others = λ c mode d. omega arith;
  own = λ locks held one marked mode. omega (arith, held mode, counts locks mode, idle_asks client t none mode);
  few = λ one nothing. one;
  asks = λ a there live. inl (there, live);
  marks = λ c e. e;
}
