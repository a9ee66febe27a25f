-- What is wanted after lines is what the last line about the client's waiting names, where that is a `wait` line.
use Rattle.lt_lists.proofs.Members.{list_any-which}
use Rattle.lt_modes.proofs.ModeAlgebra.{same_mode-true}
use Rattle.std.proofs.lemmas.Bool.{and_parts, cases_eq, false≢true}
use Rattle.lt_law_invariant.proofs.ClientCommands.{find_is}
use Rattle.lt_law_invariant.proofs.ClientEffects.{is_asks, gone_same, route_gone, one_of_client}
use Rattle.lt_model.proofs.Voids.{asks_ways, withdraws_ways}
use Rattle.lt_modes.specs.Waiting.{pending_ask, waits}
use Rattle.lt_modes.specs.Serving.{is_gone, without_gone as left_gone}
use Rattle.std.proofs.Common.{◌≡◌, ℕ, inl, inr, List, [], ◌∷◌, Option, Some, None, Bool, true, false, refl, ap, ◌∙◌, ◌≢◌, ◌++◌, sym, subst, ◌⊎◌, ◌↔◌, ◌==◌, if◌then◌else◌, IsFalse, fold, Contains, eq-eqb, eqb-true, ne_eqb, ◌≤◌, count_by, ◌||◌, ◌&&◌, not}
use Rattle.std.specs.List.{AllByRecursion, list_any}
use Rattle.std.proofs.lemmas.List.Sums.{fold-append}
use Rattle.std.proofs.lemmas.List.Elements.{Contains-push_cases, Contains-push, Contains-append_left}
use Rattle.lt_modes.specs.declared.mode.Mode.{Mode}
use Rattle.lt_modes.specs.declared.event.Event.{Event}
use Rattle.lt_modes.specs.declared.event.Event.TheVariants.{Grant, Wait, Change, Try, Unlock, NotHeld, Withheld, Withdrawn, Withdraw}
use Rattle.lt_modes.specs.declared.stamp.Stamp.{Stamp}
use Rattle.lt_modes.specs.declared.ask.Ask.{Ask}
use Rattle.lt_modes.specs.State.{SetState, ParkedAsk, Made, then_do, same_choice}
use Rattle.lt_modes.specs.Modes.{count_of, take_lock, same_mode}
use Rattle.lt_modes.specs.Granting.{can_grant}
use Rattle.lt_modes.specs.SetMove.{answers, given, granted, ask_of, asked, locked, tried, unlocked, change_held, changed, asked_or_not, same_wish, given_up, withdrawn, mode_wanted}
use Rattle.lt_spec.specs.Holdings.{Holding, holding, wanted, wanted_after, is_about_waiting, HasOpenWait}
use Rattle.lt_law_invariant.proofs.OwnSteps.{route_same}
use Rattle.lt_law_lines.proofs.LineRules.{route_says}
use Rattle.lt_law_lines.proofs.WaitRules.{Unsaid, Answered, Answers, then_says, IsLive, live_as}

-- no line is about the client's waiting
abbrev AreQuiet : ℕ → List Event → Type 0
AreQuiet client lines = AllByRecursion (λ line. IsFalse (is_about_waiting client line)) lines

line_quiet : (client : ℕ) (lock : Option Holding) (line : Event) → IsFalse (is_about_waiting client line) → wanted_after client lock line ≡ lock
line_quiet client lock (Wait c s mode) e = ap (λ (own : Bool). if own then Some (holding c s mode) else lock) e
line_quiet client lock (Grant c s mode) e = ap (λ (own : Bool). if own then None else lock) e
line_quiet client lock (Change c s gives_up mode) e = ap (λ (own : Bool). if own then None else lock) e
line_quiet client lock (Withdrawn c s mode) e = ap (λ (own : Bool). if own then None else lock) e
line_quiet client lock other e = refl

lines_quiet : (client : ℕ) (lock : Option Holding) (lines : List Event) → AreQuiet client lines → fold (wanted_after client) lock lines ≡ lock
lines_quiet client lock [] h = refl
lines_quiet client lock (line ∷ rest) h = lines_quiet client (wanted_after client lock line) rest h.1 ∙ line_quiet client lock line h.0

abbrev lock_or : Holding → Option Holding → Holding
lock_or other None = other
lock_or other (Some lock) = lock

-- where the last line about it is
abbrev OpenAt : ℕ → Holding → List Event → Type 0
OpenAt client lock lines = HasOpenWait client lock.set lock.mode lines

-- a line names what is wanted, or changes nothing
line_names : (client : ℕ) (lock : Option Holding) (line : Event) (wants : Holding) → wanted_after client lock line ≡ Some wants
    → ((lock ≡ Some wants) × IsFalse (is_about_waiting client line)) ⊎ (line ≡ Wait client wants.set wants.mode)
line_names client lock (Wait c s mode) wants e = by_own (c == client) refl e
  where
    by_own : (own : Bool) → (c == client) ≡ own → (if own then Some (holding c s mode) else lock) ≡ Some wants
        → ((lock ≡ Some wants) × IsFalse (c == client)) ⊎ (Wait c s mode ≡ Wait client wants.set wants.mode)
    by_own false f g = inl (g, f)
    by_own true f g =
        let is : holding c s mode ≡ wants = ap (lock_or wants) g in
        inr (λ i. Wait (eqb-true c client f i) (is i).set (is i).mode)
line_names client lock (Grant c s mode) wants e = by_own (c == client) refl e
  where
    by_own : (own : Bool) → (c == client) ≡ own → (if own then None else lock) ≡ Some wants
        → ((lock ≡ Some wants) × IsFalse (c == client)) ⊎ (Grant c s mode ≡ Wait client wants.set wants.mode)
    by_own false f g = inl (g, f)
    by_own true f g = cc
line_names client lock (Change c s gives_up mode) wants e = by_own (c == client) refl e
  where
    by_own : (own : Bool) → (c == client) ≡ own → (if own then None else lock) ≡ Some wants
        → ((lock ≡ Some wants) × IsFalse (c == client)) ⊎ (Change c s gives_up mode ≡ Wait client wants.set wants.mode)
    by_own false f g = inl (g, f)
    by_own true f g = cc
line_names client lock (Withdrawn c s mode) wants e = by_own (c == client) refl e
  where
    by_own : (own : Bool) → (c == client) ≡ own → (if own then None else lock) ≡ Some wants
        → ((lock ≡ Some wants) × IsFalse (c == client)) ⊎ (Withdrawn c s mode ≡ Wait client wants.set wants.mode)
    by_own false f g = inl (g, f)
    by_own true f g = cc
line_names client lock other wants e = inl (e, refl)

lines_name : (client : ℕ) (lines : List Event) (lock : Option Holding) (wants : Holding) → fold (wanted_after client) lock lines ≡ Some wants
    → ((lock ≡ Some wants) × AreQuiet client lines) ⊎ OpenAt client wants lines
lines_name client [] lock wants e = inl (e, tt)
lines_name client (line ∷ rest) lock wants e = elim (lines_name client rest (wanted_after client lock line) wants e) [
  | inr (before, later, is, quiet) ↦ inr (line ∷ before, later, ap (λ (l : List Event). line ∷ l) is, quiet)
  | inl (now, quiet) ↦ elim (line_names client lock line wants now) [
    | inl (was, silent) ↦ inl (was, (silent, quiet))
    | inr is ↦ inr ([], rest, ap (λ (x : Event). x ∷ rest) is, quiet)
  ]
]

pub open_wait : (client s : ℕ) (mode : Mode) (lines : List Event) → (wanted client lines ≡ Some (holding client s mode)) ↔ HasOpenWait client s mode lines
open_wait client s mode lines = (λ e. named e, λ h. wants h)
  where
    nothing : {A : Type 0} → ◌≡◌ {A = Option Holding} None (Some (holding client s mode)) → A
    nothing e = cc

    named : wanted client lines ≡ Some (holding client s mode) → HasOpenWait client s mode lines
    named e = elim (lines_name client lines None (holding client s mode) e) [
      | inl (none, quiet) ↦ nothing none
      | inr found ↦ found
    ]

    wants : HasOpenWait client s mode lines → wanted client lines ≡ Some (holding client s mode)
    wants (before, later, is, quiet) =
        ap (wanted client) is ∙ fold-append (wanted_after client) None before (Wait client s mode ∷ later)
        ∙ ap (λ (own : Bool). fold (wanted_after client) (if own then Some (holding client s mode) else wanted client before) later) (eq-eqb client client refl)
        ∙ lines_quiet client (Some (holding client s mode)) later quiet

-- The lines of a client's command tell what it waits for.

-- the client has no unanswered ask here that it didn't give up
abbrev pub NoneOf : ℕ → SetState → Type 0
NoneOf client t = (ask : Ask) → IsLive t client ask → ask.client ≢ client

-- the client waits for nothing, as it did
pub record StaysIdle (client : ℕ) (m : Made) : Type 0 where
  pub said : fold (wanted_after client) None m.events ≡ None
  pub none : NoneOf client m.state

-- the client waits for the mode, as it is said
pub record NowWaits (client s : ℕ) (m : Made) : Type 0 where
  pub mode : Mode
  pub said : fold (wanted_after client) None m.events ≡ Some (holding client s mode)
  pub asked : (ask : Ask) × IsLive m.state client ask × (ask.client ≡ client) × (ask.mode ≡ mode)
  pub only : (ask : Ask) → IsLive m.state client ask → ask.client ≡ client → ask.mode ≡ mode

-- what a command of the client says of it, where it waits for nothing, and of others
pub record ActSays (client s : ℕ) (t : SetState) (m : Made) : Type 0 where
  pub others : (c : ℕ) → c ≢ client → Unsaid c t m ⊎ Answered c t m
  pub own : NoneOf client t → StaysIdle client m ⊎ NowWaits client s m

-- and then the end of the move
pub act_ends : (client s : ℕ) (t : SetState) (m : Made) (rule : SetState → Made) → ActSays client s t m → Answers m.state (rule m.state) → ActSays client s t (then_do m rule)
act_ends client s t m rule first second = record {
  others = λ c d. then_says c t m rule (first.others c d) (second c);
  own = λ idle. by_cases (first.own idle) (second client);
}
  where
    later : List Event
    later = (rule m.state).events

    more : fold (wanted_after client) None (m.events ++ later) ≡ fold (wanted_after client) (fold (wanted_after client) None m.events) later
    more = fold-append (wanted_after client) None m.events later

    by_cases : StaysIdle client m ⊎ NowWaits client s m → Unsaid client m.state (rule m.state) ⊎ Answered client m.state (rule m.state)
        → StaysIdle client (then_do m rule) ⊎ NowWaits client s (then_do m rule)
    by_cases (inl idle) (inl u) = inl (record {
      said = more ∙ u.said (fold (wanted_after client) None m.events) ∙ idle.said;
      none = λ ask there own. idle.none ask (u.older ask own there) own;
    })
    by_cases (inl idle) (inr a) = absurd (idle.none a.asked.0 a.asked.1 a.asked.2)
    by_cases (inr waits) (inl u) = inr (record {
      mode = waits.mode;
      said = more ∙ u.said (fold (wanted_after client) None m.events) ∙ waits.said;
      asked = (waits.asked.0, u.stays waits.asked.0 waits.asked.2 waits.asked.1, waits.asked.2, waits.asked.3);
      only = λ ask there own. waits.only ask (u.older ask own there) own;
    })
    by_cases (inr waits) (inr a) = inl (record { said = more ∙ a.said (fold (wanted_after client) None m.events); none = a.none })

-- lines that name no other client, and the asks as they were
quiet_act : (client s : ℕ) (t : SetState) (m : Made) → ((c : ℕ) (lock : Option Holding) → c ≢ client → fold (wanted_after c) lock m.events ≡ lock)
    → fold (wanted_after client) None m.events ≡ None → m.state.pending ≡ t.pending → m.state.gone ≡ t.gone → ActSays client s t m
quiet_act client s t m others own same marks = record {
  others = λ c d. inl (record {
    said = λ lock. others c lock d;
    stays = λ ask mine live. live_as t m.state c ask same marks live;
    older = λ ask mine live. live_as m.state t c ask (sym same) (sym marks) live;
  });
  own = λ idle. inl (record { said = own; none = λ ask live. idle ask (live_as m.state t client ask (sym same) (sym marks) live) });
}

-- a line that ends the client's waiting
ends_waiting : (client s : ℕ) (t : SetState) (m : Made) → ((c : ℕ) (lock : Option Holding) → fold (wanted_after c) lock m.events ≡ (if client == c then None else lock))
    → m.state.pending ≡ t.pending → m.state.gone ≡ t.gone → ActSays client s t m
ends_waiting client s t m says same marks = quiet_act client s t m
    (λ c lock d. says c lock ∙ ap (λ (own : Bool). if own then None else lock) (ne_eqb client c (λ e. d (sym e))))
    (says client None ∙ ap (λ (own : Bool). if own then None else None) (eq-eqb client client refl))
    same marks

-- the client waits, and its ask goes to the desk
asked_says : (client s : ℕ) (stamp : Stamp) (mode : Mode) (gives_up : Option Mode) (t : SetState) → is_gone t client ≡ false
    → ActSays client s t (asked s stamp (ask_of stamp client mode gives_up t) t)
asked_says client s stamp mode gives_up t free = record {
  others = λ c d. inl (record {
    said = λ lock. said c lock ∙ ap (λ (own : Bool). if own then Some (holding client s mode) else lock) (ne_eqb client c (λ e. d (sym e)));
    stays = λ other mine live.
        (subst (λ (l : List Ask). Contains l other) (sym pending) (Contains-append_left t.pending (ask ∷ []) other live.0), marked c ∙ live.1);
    older = λ other mine live. elim (Contains-push_cases t.pending ask other (subst (λ (l : List Ask). Contains l other) pending live.0)) [
      | inl old ↦ (old, sym (marked c) ∙ live.1)
      | inr new ↦ absurd (d (sym mine ∙ ap (λ (x : Ask). x.client) (sym new)))
    ];
  });
  own = λ idle. inr (record {
    mode = mode;
    said = said client None ∙ ap (λ (own : Bool). if own then Some (holding client s mode) else None) (eq-eqb client client refl);
    asked = (ask, (subst (λ (l : List Ask). Contains l ask) (sym pending) (Contains-push t.pending ask), marked client ∙ free), refl, refl);
    only = λ other live mine. elim (Contains-push_cases t.pending ask other (subst (λ (l : List Ask). Contains l other) pending live.0)) [
      | inl old ↦ absurd (idle other (old, free) mine)
      | inr new ↦ ap (λ (x : Ask). x.mode) (sym new)
    ];
  });
}
  where
    ask : Ask
    ask = ask_of stamp client mode gives_up t

    more : SetState
    more = record t { pending = t.pending ++ ask ∷ [] }

    marked : (c : ℕ) → is_gone (asked s stamp ask t).state c ≡ is_gone t c
    marked c = ap (λ (g : List ℕ). list_any (λ other. other == c) g) (route_gone s stamp false (ParkedAsk ask) more)

    pending : (asked s stamp ask t).state.pending ≡ t.pending ++ ask ∷ []
    pending = (route_same s stamp false (ParkedAsk ask) more).1.pending

    said : (c : ℕ) (lock : Option Holding) → fold (wanted_after c) lock (asked s stamp ask t).events ≡ (if client == c then Some (holding client s mode) else lock)
    said c lock = ap (λ (l : List Event). fold (wanted_after c) lock (Wait client s mode ∷ l)) (route_says s stamp false (ParkedAsk ask) more).0

none_marked : (marks : List ℕ) (client : ℕ) → list_any (λ other. other == client) (left_gone marks client) ≡ false
none_marked [] client = refl
none_marked (x ∷ rest) client = by_test (x == client) refl (none_marked rest client)
  where
    by_test : (here : Bool) → (x == client) ≡ here → list_any (λ other. other == client) (left_gone rest client) ≡ false
        → list_any (λ other. other == client) (if not here then x ∷ left_gone rest client else left_gone rest client) ≡ false
    by_test true e again = again
    by_test false e again = ap (λ (b : Bool). b || list_any (λ other. other == client) (left_gone rest client)) e ∙ again

-- the client takes an ask up again that it gave up
retaken_says : (client s : ℕ) (ask : Ask) (t : SetState) → ask.client ≡ client → count_by (is_asks client) t.pending ≤ 1 → same_wish ask (pending_ask t client) ≡ true
    → ActSays client s t (answers (Wait client s ask.mode) (record t { gone = left_gone t.gone client }))
retaken_says client s ask t own few wish = record {
  others = λ c d. inl (record {
    said = λ lock. ap (λ (mine : Bool). if mine then Some (holding client s ask.mode) else lock) (ne_eqb client c (λ e. d (sym e)));
    stays = λ other mine live. (live.0, gone_same t.gone client c d ∙ live.1);
    older = λ other mine live. (live.0, sym (gone_same t.gone client c d) ∙ live.1);
  });
  own = λ idle. inr (by_ask (pending_ask t client) refl);
}
  where
    by_ask : (o : Option Ask) → pending_ask t client ≡ o → NowWaits client s (answers (Wait client s ask.mode) (record t { gone = left_gone t.gone client }))
    by_ask None e = absurd (false≢true (ap (same_wish ask) (sym e) ∙ wish))
    by_ask (Some old) e =
        let found = find_is (is_asks client) t.pending old e in
        let theirs = eqb-true old.client client found.1 in
        let parts = and_parts (same_mode ask.mode old.mode) (same_choice ask.gives_up old.gives_up) (ap (same_wish ask) (sym e) ∙ wish) in
        let same : old.mode ≡ ask.mode = sym (same_mode-true ask.mode old.mode parts.0) in
        record {
          mode = ask.mode;
          said = ap (λ (mine : Bool). if mine then Some (holding client s ask.mode) else None) (eq-eqb client client refl);
          asked = (old, (found.0, none_marked t.gone client), theirs, same);
          only = λ other live mine.
              ap (λ (x : Ask). x.mode)
              (sym (one_of_client t.pending old other (subst (λ (c : ℕ). count_by (is_asks c) t.pending ≤ 1) (sym theirs) few) found.0 live.0 (mine ∙ sym theirs))) ∙ same;
        }

-- an ask that can't be granted at once
ask_says : (client s : ℕ) (stamp : Stamp) (mode : Mode) (gives_up : Option Mode) (t : SetState) → count_by (is_asks client) t.pending ≤ 1
    → ActSays client s t (asked_or_not s stamp (ask_of stamp client mode gives_up t) t)
ask_says client s stamp mode gives_up t few =
    asks_ways (ActSays client s t) s stamp (ask_of stamp client mode gives_up t) t
    (λ free. asked_says client s stamp mode gives_up t free)
    (λ gone same. retaken_says client s (ask_of stamp client mode gives_up t) t refl few same)
    (quiet_act client s t (answers (Withheld client s mode) t) (λ c lock d. refl) refl refl refl)

-- a client gives up what another one, or it itself, waits for
pub withdrawn_answers : (client other s : ℕ) (t : SetState) → Answers t (withdrawn s client other t)
withdrawn_answers client other s t = withdraws_ways (Answers t) s client other t gives (λ idle c. quiet c)
  where
    either : (x y : Bool) → (x || y) ≡ false → (x ≡ false) × (y ≡ false)
    either true y e = cc
    either false y e = (refl, e)

    quiet : (c : ℕ) → Unsaid c t (answers (Withdraw client other s false) t) ⊎ Answered c t (answers (Withdraw client other s false) t)
    quiet c = inl (record { said = λ lock. refl; stays = λ ask own live. live; older = λ ask own live. live })

    asks_live : waits t other ≡ true → (ask : Ask) × IsLive t other ask × (ask.client ≡ other)
    asks_live waiting =
        let parts = and_parts (list_any (λ (ask : Ask). ask.client == other) t.pending) (not (is_gone t other)) waiting in
        let found = list_any-which (λ (ask : Ask). ask.client == other) t.pending parts.0 in
        (found.0, (found.1, not_true (is_gone t other) parts.1), eqb-true found.0.client other found.2)
      where
        not_true : (b : Bool) → not b ≡ true → b ≡ false
        not_true true e = cc
        not_true false e = refl

    gives : waits t other ≡ true → Answers t (given_up s client other t)
    gives waiting c = elim (cases_eq other c) [
      | inl e ↦
          let found = asks_live waiting in
          inr (record {
            said = λ lock. ap (λ (mine : Bool). if mine then None else lock) (eq-eqb other c e);
            asked = subst (λ (x : ℕ). (ask : Ask) × IsLive t x ask × (ask.client ≡ x)) e found;
            none = λ ask live own. false≢true (sym (either (other == c) (is_gone t c) live.1).0 ∙ eq-eqb other c e);
          })
      | inr d ↦ inl (record {
        said = λ lock. ap (λ (mine : Bool). if mine then None else lock) (ne_eqb other c d);
        stays = λ ask own live. (live.0, ap (λ (b : Bool). b || is_gone t c) (ne_eqb other c d) ∙ live.1);
        older = λ ask own live. (live.0, (either (other == c) (is_gone t c) live.1).1);
      })
    ]

pub locked_says : (client s : ℕ) (stamp : Stamp) (mode : Mode) (t : SetState) → count_by (is_asks client) t.pending ≤ 1 → ActSays client s t (locked s stamp client mode t)
locked_says client s stamp mode t few = by_test (can_grant stamp.node t client mode)
  where
    by_test : (can : Bool) → ActSays client s t (if can then granted s client mode t else asked_or_not s stamp (ask_of stamp client mode None t) t)
    by_test true = ends_waiting client s t (granted s client mode t) (λ c lock. refl) refl refl
    by_test false = ask_says client s stamp mode None t few

pub tried_says : (client s : ℕ) (stamp : Stamp) (mode : Mode) (t : SetState) → ActSays client s t (tried s stamp client mode t)
tried_says client s stamp mode t = by_test (can_grant stamp.node t client mode)
  where
    by_test : (can : Bool) → ActSays client s t (if can then answers (Try client s mode true) (given client mode None t) else answers (Try client s mode false) t)
    by_test true = quiet_act client s t (answers (Try client s mode true) (given client mode None t)) (λ c lock d. refl) refl refl refl
    by_test false = quiet_act client s t (answers (Try client s mode false) t) (λ c lock d. refl) refl refl refl

pub unlocked_says : (client s : ℕ) (mode : Mode) (t : SetState) → ActSays client s t (unlocked s client mode t)
unlocked_says client s mode t = by_test (count_of t.held client mode == 0)
  where
    by_test : (none : Bool) → ActSays client s t (if none then answers (NotHeld client s mode) t else answers (Unlock client s mode) (record t { held = take_lock t.held client mode }))
    by_test true = quiet_act client s t (answers (NotHeld client s mode) t) (λ c lock d. refl) refl refl refl
    by_test false = quiet_act client s t (answers (Unlock client s mode) (record t { held = take_lock t.held client mode })) (λ c lock d. refl) refl refl refl

pub changed_says : (client s : ℕ) (stamp : Stamp) (gives_up mode : Mode) (t : SetState) → count_by (is_asks client) t.pending ≤ 1 → ActSays client s t (changed s stamp client gives_up mode t)
changed_says client s stamp gives_up mode t few = by_count (count_of t.held client gives_up == 0)
  where
    by_test : (can : Bool) → ActSays client s t (if can then answers (Change client s gives_up mode) (given client mode (Some gives_up) t) else asked_or_not s stamp (ask_of stamp client mode (Some gives_up) t) t)
    by_test true = ends_waiting client s t (answers (Change client s gives_up mode) (given client mode (Some gives_up) t)) (λ c lock. refl) refl refl
    by_test false = ask_says client s stamp mode (Some gives_up) t few

    by_count : (none : Bool) → ActSays client s t (if none then answers (NotHeld client s gives_up) t else change_held s stamp client gives_up mode t)
    by_count true = quiet_act client s t (answers (NotHeld client s gives_up) t) (λ c lock d. refl) refl refl refl
    by_count false = by_test (can_grant stamp.node t client mode)
