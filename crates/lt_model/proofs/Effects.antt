-- A node's move on one set as its effects in order: what each effect leads to, the move leads to.
-- What holds is said of the state by now and of the letters sent so far.
use Rattle.lt_modes.specs.Waiting.{pending_ask, waits}
use Rattle.lt_model.proofs.Voids.{asks_ways, withdraws_ways}
use Rattle.std.proofs.Common.{◌≡◌, ℕ, zero, suc, ◌+◌, ◌<◌, ◌≤◌, List, [], ◌∷◌, ◌++◌, length, Option, Some, None, Bool, true, false, refl, sym, ap, subst, arith, ◌∙◌, ◌==◌, if◌then◌else◌, is_some, remove, append-nil, append_assoc}
use Rattle.lt_modes.specs.declared.mode.Mode.{Mode}
use Rattle.lt_modes.specs.declared.stamp.Stamp.{Stamp}
use Rattle.lt_modes.specs.declared.ask.Ask.{Ask}
use Rattle.lt_modes.specs.declared.event.Event.TheVariants.{Try, Unlock, NotHeld, Change, Wait, Withheld, Withdraw}
use Rattle.lt_modes.specs.Modes.{Modes, with_mode, bars, same_modes, count_of, take_lock, held_modes}
use Rattle.lt_modes.specs.State.{SetState, Desk, Letter, Parked, Made, Post, silent, then_do}
use Rattle.lt_modes.specs.Freezing.{freeze}
use Rattle.lt_modes.specs.Granting.{can_grant}
use Rattle.lt_modes.specs.Serving.{queue_of, queue_of_desk, ask_at, is_served, next_from, next_at, next_service, serve, serve_up_to, serve_step, serve_one, serve_local, serve_copy, is_gone, without_gone}
use Rattle.lt_modes.specs.HandingOver.{next_draw, hand_over, hand_over_for, hand_over_to}
use Rattle.lt_modes.specs.SetMove.{make_tell, finish, finish_by, answers, given, granted, ask_of, asked, locked, tried, unlocked, change_held, changed, dropped, lock, try, unlock, change, drop, asked_or_not, same_wish, given_up, withdrawn, withdraw}
use Rattle.lt_modes.specs.Routing.{Way, dealt, way, sent_on, route, route_by}
use Rattle.lt_modes.specs.Taking.{arrive, take}
use Rattle.lt_modes.proofs.ServingLemmas.{length-serve_one}
use Rattle.lt_model.proofs.PathsQuiet.{put_queue_some, owed_at_some}

-- what is said of a state and the letters sent so far
abbrev pub Fact : Type 1
Fact = SetState → List Post → Type 0

-- two facts at once
abbrev pub both : Fact → Fact → Fact
both f g t posts = f t posts × g t posts

-- the fact of what was made, after these letters
abbrev pub HoldsOf : Fact → List Post → Made → Type 0
HoldsOf fact posts m = fact m.state (posts ++ m.posts)

-- what a service, a freeze, a leaving or a staying desk, and a tell lead to
pub record EndEffects (set : ℕ) (stamp : Stamp) (mid frozen ended : Fact) : Type 0 where
  pub serves : (t : SetState) (posts : List Post) (k : ℕ) → next_service stamp.node t ≡ Some k → mid t posts
      → HoldsOf mid posts (serve_one set stamp k t)
  pub freezes : (t : SetState) (posts : List Post) (desk : Desk) → t.desk ≡ Some desk → next_service stamp.node t ≡ None → mid t posts
      → HoldsOf frozen posts (freeze set stamp t)
  pub leaves : (t : SetState) (posts : List Post) (k : ℕ) → next_draw stamp.node t ≡ Some k → frozen t posts
      → HoldsOf ended posts (hand_over_to set stamp t (ask_at t k).node t.desk)
  pub stays : (t : SetState) (posts : List Post) → next_draw stamp.node t ≡ None → frozen t posts → ended t posts
  pub tells : (t : SetState) (posts : List Post) → t.desk ≡ None → same_modes (bars (held_modes t.held)) (bars t.charge) ≡ false → mid t posts
      → HoldsOf ended posts (make_tell set stamp t)
  pub tells_not : (t : SetState) (posts : List Post) → t.desk ≡ None → same_modes (bars (held_modes t.held)) (bars t.charge) ≡ true → mid t posts
      → ended t posts

-- what the commands of a client lead to
pub record ActEffects (set : ℕ) (stamp : Stamp) (begun mid : Fact) : Type 0 where
  pub nothing : (t : SetState) (posts : List Post) → begun t posts → mid t posts
  pub grants : (client : ℕ) (mode : Mode) (t : SetState) (posts : List Post) → can_grant stamp.node t client mode ≡ true → begun t posts
      → mid (given client mode None t) posts
  pub changes : (client : ℕ) (gives_up mode : Mode) (t : SetState) (posts : List Post) → (count_of t.held client gives_up == 0) ≡ false
      → can_grant stamp.node t client mode ≡ true → begun t posts → mid (given client mode (Some gives_up) t) posts
  pub releases : (client : ℕ) (mode : Mode) (t : SetState) (posts : List Post) → (count_of t.held client mode == 0) ≡ false → begun t posts
      → mid (record t { held = take_lock t.held client mode }) posts
  pub drops : (client : ℕ) (t : SetState) (posts : List Post) → begun t posts → mid (dropped client t) posts
  pub withdraws : (other : ℕ) (t : SetState) (posts : List Post) → waits t other ≡ true → begun t posts → mid (record t { gone = other ∷ t.gone }) posts
  pub retakes : (ask : Ask) (t : SetState) (posts : List Post) → is_gone t ask.client ≡ true → same_wish ask (pending_ask t ask.client) ≡ true → begun t posts
      → mid (record t { gone = without_gone t.gone ask.client }) posts
  pub asks : (client : ℕ) (mode : Mode) (t : SetState) (posts : List Post) → can_grant stamp.node t client mode ≡ false → is_gone t client ≡ false → begun t posts
      → HoldsOf mid posts (asked set stamp (ask_of stamp client mode None t) t)
  pub change_asks : (client : ℕ) (gives_up mode : Mode) (t : SetState) (posts : List Post) → (count_of t.held client gives_up == 0) ≡ false
      → can_grant stamp.node t client mode ≡ false → is_gone t client ≡ false → begun t posts
      → HoldsOf mid posts (asked set stamp (ask_of stamp client mode (Some gives_up) t) t)

pub holds_then : (fact : Fact) (posts : List Post) (m : Made) (rule : SetState → Made)
    → HoldsOf fact (posts ++ m.posts) (rule m.state) → HoldsOf fact posts (then_do m rule)
holds_then fact posts m rule h =
    subst (fact (rule m.state).state) (append_assoc posts m.posts (rule m.state).posts) h

pub holds_silent : (fact : Fact) (posts : List Post) (t : SetState) → fact t posts → HoldsOf fact posts (silent t)
holds_silent fact posts t h = subst (fact t) (sym (append-nil posts)) h

-- an ask or a tell is dealt with at the desk, or parked or sent on
pub route_ways : (Q : Made → Type 0) (set : ℕ) (stamp : Stamp) (marked : Bool) (item : Parked) (t : SetState)
    → ((desk : Desk) → t.desk ≡ Some desk → Q (silent (record t { desk = Some (dealt desk item) })))
    → (t.desk ≡ None → (w : Way) → way stamp.node marked item t ≡ w → Q (sent_on set stamp item t w))
    → Q (route set stamp marked item t)
route_ways Q set stamp marked item t at_desk onward = by_desk t.desk refl
  where
    by_desk : (desk : Option Desk) → t.desk ≡ desk → Q (route_by set stamp marked item t desk)
    by_desk (Some desk) e = at_desk desk e
    by_desk None e = onward e (way stamp.node marked item t) refl

-- the place of a service is one of the queue
next_within : (me : ℕ) (s : SetState) (desk : Desk) (before : Modes) (place : ℕ) (queue : List Ask) (k : ℕ)
    → next_from me s desk before place queue ≡ Some k → k < place + length queue
next_within me s desk before place [] k e = cc
next_within me s desk before place (ask ∷ rest) k e =
    by_test (λ f. next_within me s desk (with_mode before ask.mode) (place + 1) rest k f) (is_served me s desk before ask) e
  where
    by_test : (next_from me s desk (with_mode before ask.mode) (place + 1) rest ≡ Some k → k < place + 1 + length rest)
        → (here : Bool) → (if here then Some place else next_from me s desk (with_mode before ask.mode) (place + 1) rest) ≡ Some k
        → k < place + length (ask ∷ rest)
    by_test again true f = let same : place ≡ k = cc in omega (arith, same)
    by_test again false f = omega (arith, again f)

pub next_service-within : (me : ℕ) (s : SetState) (k : ℕ) → next_service me s ≡ Some k → k < length (queue_of s)
next_service-within me s k e = by_desk s.desk e
  where
    by_desk : (desk : Option Desk) → next_at me s desk ≡ Some k → k < length (queue_of_desk desk)
    by_desk None f = cc
    by_desk (Some desk) f = omega (arith, next_within me s desk _ 0 desk.queue k f)

none_left : (me : ℕ) (s : SetState) → length (queue_of s) ≡ 0 → next_service me s ≡ None
none_left me s empty = by_next (next_service me s) refl
  where
    by_next : (o : Option ℕ) → next_service me s ≡ o → o ≡ None
    by_next None e = refl
    by_next (Some k) e = absurd (omega (arith, next_service-within me s k e, empty))

-- what serving leads to, and that no service is left
pub record Served (stamp : Stamp) (mid : Fact) (posts : List Post) (m : Made) : Type 0 where
  pub holds : HoldsOf mid posts m
  pub none : next_service stamp.node m.state ≡ None

served_up_to : (n set : ℕ) (stamp : Stamp) (mid : Fact)
    → ((t : SetState) (posts : List Post) (k : ℕ) → next_service stamp.node t ≡ Some k → mid t posts → HoldsOf mid posts (serve_one set stamp k t))
    → (t : SetState) (posts : List Post) → length (queue_of t) ≤ n → mid t posts → Served stamp mid posts (serve_up_to n set stamp t)
served_up_to zero set stamp mid serves t posts few h =
    record { holds = holds_silent mid posts t h; none = none_left stamp.node t (omega (arith, few)) }
served_up_to (suc n) set stamp mid serves t posts few h =
    step (λ u more fewer hu. served_up_to n set stamp mid serves u more fewer hu) (next_service stamp.node t) refl
  where
    step : ((u : SetState) (more : List Post) → length (queue_of u) ≤ n → mid u more → Served stamp mid more (serve_up_to n set stamp u))
        → (o : Option ℕ) → next_service stamp.node t ≡ o → Served stamp mid posts (serve_step set stamp (serve_up_to n set stamp) t o)
    step again None e = record { holds = holds_silent mid posts t h; none = e }
    step again (Some k) e =
        let m = serve_one set stamp k t in
        let fewer : length (queue_of m.state) ≤ n = omega (arith, length-serve_one set stamp k t (next_service-within stamp.node t k e), few) in
        let rest = again m.state (posts ++ m.posts) fewer (serves t posts k e h) in
        record { holds = holds_then mid posts m (serve_up_to n set stamp) rest.holds; none = rest.none }

serve_one-desk : (set : ℕ) (stamp : Stamp) (k : ℕ) (t : SetState) → is_some (serve_one set stamp k t).state.desk ≡ is_some t.desk
serve_one-desk set stamp k t = by_test ((ask_at t k).node == stamp.node)
  where
    by_test : (own : Bool) → is_some (if own then serve_local set k t else serve_copy set stamp k (ask_at t k) t).state.desk ≡ is_some t.desk
    by_test true = put_queue_some (remove (queue_of t) k) t.desk
    by_test false = owed_at_some (ask_at t k) k t.desk

-- serving keeps the desk where it is
pub serve-desk : (n set : ℕ) (stamp : Stamp) (t : SetState) → is_some (serve_up_to n set stamp t).state.desk ≡ is_some t.desk
serve-desk zero set stamp t = refl
serve-desk (suc n) set stamp t = step (λ u. serve-desk n set stamp u) (next_service stamp.node t)
  where
    step : ((u : SetState) → is_some (serve_up_to n set stamp u).state.desk ≡ is_some u.desk) → (o : Option ℕ)
        → is_some (serve_step set stamp (serve_up_to n set stamp) t o).state.desk ≡ is_some t.desk
    step again None = refl
    step again (Some k) = again (serve_one set stamp k t).state ∙ serve_one-desk set stamp k t

-- the end of a move
pub finish_by_effects : (set : ℕ) (stamp : Stamp) (mid frozen ended : Fact) → EndEffects set stamp mid frozen ended
    → (t : SetState) (posts : List Post) → mid t posts → HoldsOf ended posts (finish set stamp t)
finish_by_effects set stamp mid frozen ended ends t posts h = by_desk t.desk refl
  where
    leaving : (u : SetState) (more : List Post) → frozen u more → HoldsOf ended more (hand_over set stamp u)
    leaving u more hu = by_place (next_draw stamp.node u) refl
      where
        by_place : (o : Option ℕ) → next_draw stamp.node u ≡ o → HoldsOf ended more (hand_over_for set stamp u o)
        by_place None e = holds_silent ended more u (ends.stays u more e hu)
        by_place (Some k) e = ends.leaves u more k e hu

    frozen_by_desk : (desk : Desk) → t.desk ≡ Some desk → HoldsOf frozen posts (then_do (serve set stamp t) (freeze set stamp))
    frozen_by_desk desk here =
        let services = served_up_to (length (queue_of t)) set stamp mid ends.serves t posts (omega arith) h in
        by_kept (serve set stamp t).state.desk refl services
      where
        by_kept : (kept : Option Desk) → (serve set stamp t).state.desk ≡ kept → Served stamp mid posts (serve set stamp t)
            → HoldsOf frozen posts (then_do (serve set stamp t) (freeze set stamp))
        by_kept None e services =
            let gone : false ≡ true = sym (ap is_some e) ∙ serve-desk (length (queue_of t)) set stamp t ∙ ap is_some here in cc
        by_kept (Some kept) e services = holds_then frozen posts (serve set stamp t) (freeze set stamp)
            (ends.freezes (serve set stamp t).state (posts ++ (serve set stamp t).posts) kept e services.none services.holds)

    by_test : t.desk ≡ None → (same : Bool) → same_modes (bars (held_modes t.held)) (bars t.charge) ≡ same
        → HoldsOf ended posts (if same then silent t else make_tell set stamp t)
    by_test away true e = holds_silent ended posts t (ends.tells_not t posts away e h)
    by_test away false e = ends.tells t posts away e h

    by_desk : (desk : Option Desk) → t.desk ≡ desk → HoldsOf ended posts (finish_by set stamp t desk)
    by_desk None e = by_test e (same_modes (bars (held_modes t.held)) (bars t.charge)) refl
    by_desk (Some desk) e =
        let m = then_do (serve set stamp t) (freeze set stamp) in
        holds_then ended posts m (hand_over set stamp) (leaving m.state (posts ++ m.posts) (frozen_by_desk desk e))

-- a rule of a command, and then the end of the move
pub ends_by_effects : (set : ℕ) (stamp : Stamp) (mid frozen ended : Fact) → EndEffects set stamp mid frozen ended
    → (m : Made) (posts : List Post) → HoldsOf mid posts m → HoldsOf ended posts (then_do m (finish set stamp))
ends_by_effects set stamp mid frozen ended ends m posts h =
    holds_then ended posts m (finish set stamp) (finish_by_effects set stamp mid frozen ended ends m.state (posts ++ m.posts) h)

-- what a move of a command leads to, whatever the command
pub record ByEffects (set : ℕ) (stamp : Stamp) (begun ended : Fact) : Type 0 where
  pub locks : (client : ℕ) (mode : Mode) (t : SetState) (posts : List Post) → begun t posts → HoldsOf ended posts (lock set stamp client mode t)
  pub tries : (client : ℕ) (mode : Mode) (t : SetState) (posts : List Post) → begun t posts → HoldsOf ended posts (try set stamp client mode t)
  pub unlocks : (client : ℕ) (mode : Mode) (t : SetState) (posts : List Post) → begun t posts → HoldsOf ended posts (unlock set stamp client mode t)
  pub changes : (client : ℕ) (gives_up mode : Mode) (t : SetState) (posts : List Post) → begun t posts
      → HoldsOf ended posts (change set stamp client gives_up mode t)
  pub drops : (client : ℕ) (t : SetState) (posts : List Post) → begun t posts → HoldsOf ended posts (drop set stamp client t)
  pub withdraws : (client other : ℕ) (t : SetState) (posts : List Post) → begun t posts → HoldsOf ended posts (withdraw set stamp client other t)
  pub finishes : (t : SetState) (posts : List Post) → begun t posts → HoldsOf ended posts (finish set stamp t)

pub quiet_made : (mid : Fact) (posts : List Post) (m : Made) → m.posts ≡ [] → mid m.state posts → HoldsOf mid posts m
quiet_made mid posts m none h = subst (mid m.state) (sym (ap (λ (more : List Post). posts ++ more) none ∙ append-nil posts)) h

-- an ask that can't be granted at once
ask_by_effects : (set : ℕ) (stamp : Stamp) (begun mid : Fact) → ActEffects set stamp begun mid → (ask : Ask) (t : SetState) (posts : List Post) → begun t posts
    → (is_gone t ask.client ≡ false → HoldsOf mid posts (asked set stamp ask t)) → HoldsOf mid posts (asked_or_not set stamp ask t)
ask_by_effects set stamp begun mid acts ask t posts h asks =
    asks_ways (HoldsOf mid posts) set stamp ask t asks
    (λ gone same. quiet_made mid posts (answers (Wait ask.client set ask.mode) (record t { gone = without_gone t.gone ask.client })) refl
    (acts.retakes ask t posts gone same h))
    (quiet_made mid posts (answers (Withheld ask.client set ask.mode) t) refl (acts.nothing t posts h))

withdraw_by_effects : (set : ℕ) (stamp : Stamp) (begun mid : Fact) → ActEffects set stamp begun mid → (client other : ℕ) (t : SetState) (posts : List Post)
    → begun t posts → HoldsOf mid posts (withdrawn set client other t)
withdraw_by_effects set stamp begun mid acts client other t posts h =
    withdraws_ways (HoldsOf mid posts) set client other t
    (λ waiting. quiet_made mid posts (given_up set client other t) refl (acts.withdraws other t posts waiting h))
    (λ idle. quiet_made mid posts (answers (Withdraw client other set false) t) refl (acts.nothing t posts h))

lock_by_effects : (set : ℕ) (stamp : Stamp) (begun mid : Fact) → ActEffects set stamp begun mid → (client : ℕ) (mode : Mode) (t : SetState) (posts : List Post)
    → begun t posts → HoldsOf mid posts (locked set stamp client mode t)
lock_by_effects set stamp begun mid acts client mode t posts h = by_test (can_grant stamp.node t client mode) refl
  where
    by_test : (can : Bool) → can_grant stamp.node t client mode ≡ can
        → HoldsOf mid posts (if can then granted set client mode t else asked_or_not set stamp (ask_of stamp client mode None t) t)
    by_test true e = quiet_made mid posts (granted set client mode t) refl (acts.grants client mode t posts e h)
    by_test false e = ask_by_effects set stamp begun mid acts (ask_of stamp client mode None t) t posts h (λ free. acts.asks client mode t posts e free h)

try_by_effects : (set : ℕ) (stamp : Stamp) (begun mid : Fact) → ActEffects set stamp begun mid → (client : ℕ) (mode : Mode) (t : SetState) (posts : List Post)
    → begun t posts → HoldsOf mid posts (tried set stamp client mode t)
try_by_effects set stamp begun mid acts client mode t posts h = by_test (can_grant stamp.node t client mode) refl
  where
    by_test : (can : Bool) → can_grant stamp.node t client mode ≡ can
        → HoldsOf mid posts (if can then answers (Try client set mode true) (given client mode None t) else answers (Try client set mode false) t)
    by_test true e = quiet_made mid posts (answers (Try client set mode true) (given client mode None t)) refl (acts.grants client mode t posts e h)
    by_test false e = quiet_made mid posts (answers (Try client set mode false) t) refl (acts.nothing t posts h)

unlock_by_effects : (set : ℕ) (stamp : Stamp) (begun mid : Fact) → ActEffects set stamp begun mid → (client : ℕ) (mode : Mode) (t : SetState) (posts : List Post)
    → begun t posts → HoldsOf mid posts (unlocked set client mode t)
unlock_by_effects set stamp begun mid acts client mode t posts h = by_test (count_of t.held client mode == 0) refl
  where
    by_test : (none : Bool) → (count_of t.held client mode == 0) ≡ none
        → HoldsOf mid posts (if none then answers (NotHeld client set mode) t else answers (Unlock client set mode) (record t { held = take_lock t.held client mode }))
    by_test true e = quiet_made mid posts (answers (NotHeld client set mode) t) refl (acts.nothing t posts h)
    by_test false e = quiet_made mid posts (answers (Unlock client set mode) (record t { held = take_lock t.held client mode })) refl
        (acts.releases client mode t posts e h)

change_by_effects : (set : ℕ) (stamp : Stamp) (begun mid : Fact) → ActEffects set stamp begun mid → (client : ℕ) (gives_up mode : Mode) (t : SetState) (posts : List Post)
    → begun t posts → HoldsOf mid posts (changed set stamp client gives_up mode t)
change_by_effects set stamp begun mid acts client gives_up mode t posts h = by_count (count_of t.held client gives_up == 0) refl
  where
    by_test : (count_of t.held client gives_up == 0) ≡ false → (can : Bool) → can_grant stamp.node t client mode ≡ can
        → HoldsOf mid posts (if can then answers (Change client set gives_up mode) (given client mode (Some gives_up) t)
        else asked_or_not set stamp (ask_of stamp client mode (Some gives_up) t) t)
    by_test holds true e = quiet_made mid posts (answers (Change client set gives_up mode) (given client mode (Some gives_up) t)) refl
        (acts.changes client gives_up mode t posts holds e h)
    by_test holds false e =
        ask_by_effects set stamp begun mid acts (ask_of stamp client mode (Some gives_up) t) t posts h (λ free. acts.change_asks client gives_up mode t posts holds e free h)

    by_count : (none : Bool) → (count_of t.held client gives_up == 0) ≡ none
        → HoldsOf mid posts (if none then answers (NotHeld client set gives_up) t else change_held set stamp client gives_up mode t)
    by_count true e = quiet_made mid posts (answers (NotHeld client set gives_up) t) refl (acts.nothing t posts h)
    by_count false e = by_test e (can_grant stamp.node t client mode) refl

-- the moves of commands are made of their effects
pub acts_by_effects : (set : ℕ) (stamp : Stamp) (begun mid frozen ended : Fact) → ActEffects set stamp begun mid → EndEffects set stamp mid frozen ended
    → ByEffects set stamp begun ended
acts_by_effects set stamp begun mid frozen ended acts ends = record {
  locks = λ client mode t posts h.
      ends_by_effects set stamp mid frozen ended ends (locked set stamp client mode t) posts (lock_by_effects set stamp begun mid acts client mode t posts h);
  tries = λ client mode t posts h.
      ends_by_effects set stamp mid frozen ended ends (tried set stamp client mode t) posts (try_by_effects set stamp begun mid acts client mode t posts h);
  unlocks = λ client mode t posts h.
      ends_by_effects set stamp mid frozen ended ends (unlocked set client mode t) posts (unlock_by_effects set stamp begun mid acts client mode t posts h);
  changes = λ client gives_up mode t posts h.
      ends_by_effects set stamp mid frozen ended ends (changed set stamp client gives_up mode t) posts
      (change_by_effects set stamp begun mid acts client gives_up mode t posts h);
  drops = λ client t posts h. finish_by_effects set stamp mid frozen ended ends (dropped client t) posts (acts.drops client t posts h);
  withdraws = λ client other t posts h.
      ends_by_effects set stamp mid frozen ended ends (withdrawn set client other t) posts (withdraw_by_effects set stamp begun mid acts client other t posts h);
  finishes = λ t posts h. finish_by_effects set stamp mid frozen ended ends t posts (acts.nothing t posts h);
}

-- and so is the take of a letter
pub take_by_effects : (stamp : Stamp) (letter : Letter) (mid frozen ended : Fact) → EndEffects letter.set stamp mid frozen ended
    → (t : SetState) (posts : List Post) → HoldsOf mid posts (arrive stamp letter t) → HoldsOf ended posts (take stamp letter t)
take_by_effects stamp letter mid frozen ended ends t posts h = ends_by_effects letter.set stamp mid frozen ended ends (arrive stamp letter t) posts h
