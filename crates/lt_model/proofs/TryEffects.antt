-- What holds between a state and what each effect made of it holds of the whole move on the set.
use Rattle.lt_model.proofs.Voids.{asks_ways, withdraws_ways}
use Rattle.std.proofs.Common.{◌≡◌, ℕ, zero, suc, ◌<◌, length, Option, Some, None, Bool, true, false, refl, List, [], ◌∷◌, ◌++◌, ◌==◌, if◌then◌else◌}
use Rattle.std.specs.List.{AllByRecursion}
use Rattle.lt_modes.specs.declared.mode.Mode.{Mode}
use Rattle.lt_modes.specs.declared.stamp.Stamp.{Stamp}
use Rattle.lt_modes.specs.declared.event.Event.TheVariants.{Try, Unlock, NotHeld, Change, Freeze, Wait, Withheld, Void}
use Rattle.lt_modes.specs.Modes.{bars, same_modes, count_of, take_lock, held_modes}
use Rattle.lt_modes.specs.State.{SetState, Desk, Letter, Made, silent, then_do, Body, AskBody, TellBody, CopyBody, TokenBody, FreezeBody, Parked, ParkedAsk, ParkedTell}
use Rattle.lt_modes.specs.Freezing.{freeze, freeze_at, frozen_by, targets, number_after}
use Rattle.lt_modes.specs.Granting.{can_grant}
use Rattle.lt_modes.specs.Serving.{queue_of, ask_at, next_service, serve, serve_up_to, serve_step, serve_one, answer_by, serve_local, serve_copy, without_gone, is_gone, answer_event}
use Rattle.lt_modes.specs.HandingOver.{next_draw, hand_over, hand_over_for, hand_over_to}
use Rattle.lt_modes.specs.SetMove.{make_tell, finish, finish_by, answers, given, granted, ask_of, asked, locked, tried, unlocked, change_held, changed, lock, try, unlock, change, dropped, drop, asked_or_not, withdrawn, withdraw}
use Rattle.lt_modes.specs.Taking.{arrive, take, take_body}
use Rattle.lt_modes.specs.Routing.{Way, Parks, Goes, learn, sent_on, route}
use Rattle.lt_modes.specs.Telling.{tell_of}
use Rattle.lt_modes.specs.declared.ask.Ask.{Ask}
use Rattle.lt_modes.specs.declared.event.Event.{Event}
use Rattle.lt_lists.proofs.AllLemmas.{all_append, all_any, all_map}
use Rattle.lt_spec.specs.Promised.{IsNoTry}
use Rattle.lt_model.proofs.Effects.{next_service-within, route_ways}

-- what is said of a state and of what was made of it
abbrev pub Between : Type 1
Between = SetState → Made → Type 0

-- the effects at the end of a move
pub record EndRules (set : ℕ) (stamp : Stamp) (R : Between) : Type 0 where
  pub silent : (t : SetState) → R t (silent t)
  pub joined : (t : SetState) (m : Made) (rule : SetState → Made) → R t m → R m.state (rule m.state) → R t (then_do m rule)
  pub serves : (t : SetState) (k : ℕ) → k < length (queue_of t) → R t (serve_one set stamp k t)
  pub freezes : (t : SetState) → R t (freeze set stamp t)
  pub leaves : (t : SetState) (v : ℕ) → R t (hand_over_to set stamp t v t.desk)
  pub tells : (t : SetState) → R t (make_tell set stamp t)

-- the effects of a client's commands, and what the end of the move adds to them
pub record ActRules (set : ℕ) (stamp : Stamp) (client : ℕ) (A : Between) : Type 0 where
  pub tries_not : (mode : Mode) (t : SetState) → A t (answers (Try client set mode false) t)
  pub holds_not : (mode : Mode) (t : SetState) → A t (answers (NotHeld client set mode) t)
  pub grants : (mode : Mode) (t : SetState) → A t (granted set client mode t)
  pub tries : (mode : Mode) (t : SetState) → A t (answers (Try client set mode true) (given client mode None t))
  pub changes : (gives_up mode : Mode) (t : SetState) → A t (answers (Change client set gives_up mode) (given client mode (Some gives_up) t))
  pub releases : (mode : Mode) (t : SetState) → A t (answers (Unlock client set mode) (record t { held = take_lock t.held client mode }))
  pub asks : (mode : Mode) (gives_up : Option Mode) (t : SetState) → A t (asked set stamp (ask_of stamp client mode gives_up t) t)
  pub retakes : (mode : Mode) (t : SetState) → A t (answers (Wait client set mode) (record t { gone = without_gone t.gone client }))
  pub withheld : (mode : Mode) (t : SetState) → A t (answers (Withheld client set mode) t)
  pub ended : (t : SetState) (m : Made) → A t m → A t (then_do m (finish set stamp))

-- the commands of a client on a set
pub record CommandRules (set : ℕ) (stamp : Stamp) (client : ℕ) (A : Between) : Type 0 where
  pub locks : (mode : Mode) (t : SetState) → A t (lock set stamp client mode t)
  pub tries : (mode : Mode) (t : SetState) → A t (try set stamp client mode t)
  pub unlocks : (mode : Mode) (t : SetState) → A t (unlock set stamp client mode t)
  pub changes : (gives_up mode : Mode) (t : SetState) → A t (change set stamp client gives_up mode t)

serve_rule : (n set : ℕ) (stamp : Stamp) (R : Between) → EndRules set stamp R → (t : SetState) → R t (serve_up_to n set stamp t)
serve_rule zero set stamp R ends t = ends.silent t
serve_rule (suc n) set stamp R ends t = step (λ u. serve_rule n set stamp R ends u) (next_service stamp.node t) refl
  where
    step : ((u : SetState) → R u (serve_up_to n set stamp u)) → (o : Option ℕ) → next_service stamp.node t ≡ o
        → R t (serve_step set stamp (serve_up_to n set stamp) t o)
    step again None e = ends.silent t
    step again (Some k) e =
        let m = serve_one set stamp k t in
        ends.joined t m (serve_up_to n set stamp) (ends.serves t k (next_service-within stamp.node t k e)) (again m.state)

hand_over_rule : (set : ℕ) (stamp : Stamp) (R : Between) → EndRules set stamp R → (t : SetState) → R t (hand_over set stamp t)
hand_over_rule set stamp R ends t = by_place (next_draw stamp.node t)
  where
    by_place : (o : Option ℕ) → R t (hand_over_for set stamp t o)
    by_place None = ends.silent t
    by_place (Some k) = ends.leaves t (ask_at t k).node

-- the end of a move
pub finish_rule : (set : ℕ) (stamp : Stamp) (R : Between) → EndRules set stamp R → (t : SetState) → R t (finish set stamp t)
finish_rule set stamp R ends t = by_desk t.desk
  where
    by_test : (same : Bool) → R t (if same then silent t else make_tell set stamp t)
    by_test true = ends.silent t
    by_test false = ends.tells t

    by_desk : (desk : Option Desk) → R t (finish_by set stamp t desk)
    by_desk None = by_test (same_modes (bars (held_modes t.held)) (bars t.charge))
    by_desk (Some desk) =
        let served = serve set stamp t in
        let told = then_do served (freeze set stamp) in
        ends.joined t told (hand_over set stamp)
        (ends.joined t served (freeze set stamp) (serve_rule (length (queue_of t)) set stamp R ends t) (ends.freezes served.state))
        (hand_over_rule set stamp R ends told.state)

-- the commands are made of their effects
pub command_rules : (set : ℕ) (stamp : Stamp) (client : ℕ) (A : Between) → ActRules set stamp client A → CommandRules set stamp client A
command_rules set stamp client A acts = record {
  locks = λ mode t. acts.ended t (locked set stamp client mode t) (lock_by mode t (can_grant stamp.node t client mode));
  tries = λ mode t. acts.ended t (tried set stamp client mode t) (try_by mode t (can_grant stamp.node t client mode));
  unlocks = λ mode t. acts.ended t (unlocked set client mode t) (unlock_by mode t (count_of t.held client mode == 0));
  changes = λ gives_up mode t. acts.ended t (changed set stamp client gives_up mode t) (change_by gives_up mode t (count_of t.held client gives_up == 0));
}
  where
    ask_by : (mode : Mode) (gives_up : Option Mode) (t : SetState) → A t (asked_or_not set stamp (ask_of stamp client mode gives_up t) t)
    ask_by mode gives_up t =
        asks_ways (A t) set stamp (ask_of stamp client mode gives_up t) t (λ free. acts.asks mode gives_up t) (λ gone same. acts.retakes mode t) (acts.withheld mode t)

    lock_by : (mode : Mode) (t : SetState) (can : Bool)
        → A t (if can then granted set client mode t else asked_or_not set stamp (ask_of stamp client mode None t) t)
    lock_by mode t true = acts.grants mode t
    lock_by mode t false = ask_by mode None t

    try_by : (mode : Mode) (t : SetState) (can : Bool)
        → A t (if can then answers (Try client set mode true) (given client mode None t) else answers (Try client set mode false) t)
    try_by mode t true = acts.tries mode t
    try_by mode t false = acts.tries_not mode t

    unlock_by : (mode : Mode) (t : SetState) (none : Bool)
        → A t (if none then answers (NotHeld client set mode) t else answers (Unlock client set mode) (record t { held = take_lock t.held client mode }))
    unlock_by mode t true = acts.holds_not mode t
    unlock_by mode t false = acts.releases mode t

    held_by : (gives_up mode : Mode) (t : SetState) (can : Bool)
        → A t (if can then answers (Change client set gives_up mode) (given client mode (Some gives_up) t)
        else asked_or_not set stamp (ask_of stamp client mode (Some gives_up) t) t)
    held_by gives_up mode t true = acts.changes gives_up mode t
    held_by gives_up mode t false = ask_by mode (Some gives_up) t

    change_by : (gives_up mode : Mode) (t : SetState) (none : Bool)
        → A t (if none then answers (NotHeld client set gives_up) t else change_held set stamp client gives_up mode t)
    change_by gives_up mode t true = acts.holds_not gives_up t
    change_by gives_up mode t false = held_by gives_up mode t (can_grant stamp.node t client mode)

-- a letter is taken
pub take_rule : (stamp : Stamp) (letter : Letter) (A R : Between)
    → ((t : SetState) (m : Made) → A t m → R m.state (finish letter.set stamp m.state) → A t (then_do m (finish letter.set stamp)))
    → EndRules letter.set stamp R → (t : SetState) → A t (arrive stamp letter t) → A t (take stamp letter t)
take_rule stamp letter A R ended ends t h =
    let m = arrive stamp letter t in
    ended t m h (finish_rule letter.set stamp R ends m.state)

-- No effect of a move tells a `try` line, but that of a `try` itself.

-- these are no `try` lines
abbrev pub AreNoTries : List Event → Type 0
AreNoTries lines = AllByRecursion IsNoTry lines

-- what was made tells no `try` line
abbrev pub tries_none : Between
tries_none t m = AreNoTries m.events

none_joined : (m : Made) (rule : SetState → Made) → AreNoTries m.events → AreNoTries (rule m.state).events → AreNoTries (then_do m rule).events
none_joined m rule first second = all_append IsNoTry m.events (rule m.state).events first second

answer_none : (set : ℕ) (ask : Ask) (gives_up : Option Mode) → IsNoTry (answer_by set ask gives_up)
answer_none set ask None = tt
answer_none set ask (Some mode) = tt

route_none : (set : ℕ) (stamp : Stamp) (marked : Bool) (item : Parked) (t : SetState) → AreNoTries (route set stamp marked item t).events
route_none set stamp marked item t =
    route_ways (λ (m : Made). AreNoTries m.events) set stamp marked item t (λ desk e. tt) (λ away w e. by_way w)
  where
    by_way : (w : Way) → AreNoTries (sent_on set stamp item t w).events
    by_way Parks = tt
    by_way (Goes to mark) = tt

-- the end of a move

end_none : (set : ℕ) (ask : Ask) (gone : Bool) → IsNoTry (if gone then Void ask.client set ask.mode else answer_event set ask)
end_none set ask true = tt
end_none set ask false = answer_none set ask ask.gives_up

serves_none : (set : ℕ) (stamp : Stamp) (t : SetState) (k : ℕ) → AreNoTries (serve_one set stamp k t).events
serves_none set stamp t k = by_test ((ask_at t k).node == stamp.node)
  where
    by_test : (own : Bool) → AreNoTries (if own then serve_local set k t else serve_copy set stamp k (ask_at t k) t).events
    by_test true = (end_none set (ask_at t k) (is_gone t (ask_at t k).client), tt)
    by_test false = (tt, tt)

freezes_none : (set : ℕ) (stamp : Stamp) (t : SetState) → AreNoTries (freeze set stamp t).events
freezes_none set stamp t = by_desk t.desk
  where
    by_desk : (desk : Option Desk) → AreNoTries (freeze_at set stamp t desk).events
    by_desk None = tt
    by_desk (Some desk) =
        let told = targets stamp.node (frozen_by desk.queue) desk in
        all_map IsNoTry (λ x. Freeze set x (number_after told desk.number) (frozen_by desk.queue)) told (all_any _ (λ x. tt) told)

leaves_none : (set : ℕ) (stamp : Stamp) (t : SetState) (v : ℕ) → AreNoTries (hand_over_to set stamp t v t.desk).events
leaves_none set stamp t v = by_desk t.desk
  where
    by_desk : (desk : Option Desk) → AreNoTries (hand_over_to set stamp t v desk).events
    by_desk None = tt
    by_desk (Some desk) = (tt, tt)

none_ends : (set : ℕ) (stamp : Stamp) → EndRules set stamp tries_none
none_ends set stamp = record {
  silent = λ t. tt;
  joined = λ t m rule first second. none_joined m rule first second;
  serves = λ t k within. serves_none set stamp t k;
  freezes = freezes_none set stamp;
  leaves = leaves_none set stamp;
  tells = λ t. route_none set stamp false (ParkedTell (tell_of stamp t)) (record t { charge = held_modes t.held });
}

pub finish_none : (set : ℕ) (stamp : Stamp) (t : SetState) → AreNoTries (finish set stamp t).events
finish_none set stamp t = finish_rule set stamp tries_none (none_ends set stamp) t

-- commands

asked_none : (set : ℕ) (stamp : Stamp) (ask : Ask) (t : SetState) → AreNoTries (asked set stamp ask t).events
asked_none set stamp ask t = (tt, route_none set stamp false (ParkedAsk ask) (record t { pending = t.pending ++ ask ∷ [] }))

asked_or_not_none : (set : ℕ) (stamp : Stamp) (ask : Ask) (t : SetState) → AreNoTries (asked_or_not set stamp ask t).events
asked_or_not_none set stamp ask t =
    asks_ways (λ (m : Made). AreNoTries m.events) set stamp ask t (λ free. asked_none set stamp ask t) (λ gone same. (tt, tt)) (tt, tt)

pub lock_none : (set : ℕ) (stamp : Stamp) (client : ℕ) (mode : Mode) (t : SetState) → AreNoTries (lock set stamp client mode t).events
lock_none set stamp client mode t =
    none_joined (locked set stamp client mode t) (finish set stamp) (by_test (can_grant stamp.node t client mode))
    (finish_none set stamp (locked set stamp client mode t).state)
  where
    by_test : (can : Bool) → AreNoTries (if can then granted set client mode t else asked_or_not set stamp (ask_of stamp client mode None t) t).events
    by_test true = (tt, tt)
    by_test false = asked_or_not_none set stamp (ask_of stamp client mode None t) t

pub unlock_none : (set : ℕ) (stamp : Stamp) (client : ℕ) (mode : Mode) (t : SetState) → AreNoTries (unlock set stamp client mode t).events
unlock_none set stamp client mode t =
    none_joined (unlocked set client mode t) (finish set stamp) (by_test (count_of t.held client mode == 0))
    (finish_none set stamp (unlocked set client mode t).state)
  where
    by_test : (none : Bool) → AreNoTries (if none then answers (NotHeld client set mode) t
        else answers (Unlock client set mode) (record t { held = take_lock t.held client mode })).events
    by_test true = (tt, tt)
    by_test false = (tt, tt)

pub change_none : (set : ℕ) (stamp : Stamp) (client : ℕ) (gives_up mode : Mode) (t : SetState)
    → AreNoTries (change set stamp client gives_up mode t).events
change_none set stamp client gives_up mode t =
    none_joined (changed set stamp client gives_up mode t) (finish set stamp) (by_count (count_of t.held client gives_up == 0))
    (finish_none set stamp (changed set stamp client gives_up mode t).state)
  where
    by_test : (can : Bool) → AreNoTries (if can then answers (Change client set gives_up mode) (given client mode (Some gives_up) t)
        else asked_or_not set stamp (ask_of stamp client mode (Some gives_up) t) t).events
    by_test true = (tt, tt)
    by_test false = asked_or_not_none set stamp (ask_of stamp client mode (Some gives_up) t) t

    by_count : (none : Bool) → AreNoTries (if none then answers (NotHeld client set gives_up) t else change_held set stamp client gives_up mode t).events
    by_count true = (tt, tt)
    by_count false = by_test (can_grant stamp.node t client mode)

-- after the line of a `try`
pub try_none : (set : ℕ) (stamp : Stamp) (client : ℕ) (mode : Mode) (t : SetState)
    → (rest : List Event) × ((try set stamp client mode t).events ≡ Try client set mode (can_grant stamp.node t client mode) ∷ rest) × AreNoTries rest
try_none set stamp client mode t = by_test (can_grant stamp.node t client mode)
  where
    tried_by : Bool → Made
    tried_by can = if can then answers (Try client set mode true) (given client mode None t) else answers (Try client set mode false) t

    by_test : (can : Bool) → (rest : List Event) × ((then_do (tried_by can) (finish set stamp)).events ≡ Try client set mode can ∷ rest) × AreNoTries rest
    by_test true = ((finish set stamp (tried_by true).state).events, refl, finish_none set stamp (tried_by true).state)
    by_test false = ((finish set stamp (tried_by false).state).events, refl, finish_none set stamp (tried_by false).state)

pub drop_none : (set : ℕ) (stamp : Stamp) (other : ℕ) (t : SetState) → AreNoTries (drop set stamp other t).events
drop_none set stamp other t = finish_none set stamp (dropped other t)

pub withdraw_none : (set : ℕ) (stamp : Stamp) (client other : ℕ) (t : SetState) → AreNoTries (withdraw set stamp client other t).events
withdraw_none set stamp client other t =
    none_joined (withdrawn set client other t) (finish set stamp)
    (withdraws_ways (λ (m : Made). AreNoTries m.events) set client other t (λ waiting. (tt, (tt, tt))) (λ idle. (tt, tt)))
    (finish_none set stamp (withdrawn set client other t).state)

-- letters

pub take_none : (stamp : Stamp) (letter : Letter) (t : SetState) → AreNoTries (take stamp letter t).events
take_none stamp letter t =
    none_joined (arrive stamp letter t) (finish letter.set stamp) (by_body letter.body (learn letter.link t))
    (finish_none letter.set stamp (arrive stamp letter t).state)
  where
    by_body : (body : Body) (u : SetState) → AreNoTries (take_body letter.set stamp body u).events
    by_body (AskBody ask marked) u = route_none letter.set stamp marked (ParkedAsk ask) u
    by_body (TellBody tell) u = route_none letter.set stamp false (ParkedTell tell) u
    by_body (CopyBody ask) u = (end_none letter.set ask (is_gone u ask.client), tt)
    by_body (TokenBody desk) u = tt
    by_body (FreezeBody number modes) u = tt
