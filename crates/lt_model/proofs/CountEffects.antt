-- What the effects of a move do to the number of locks and of asks that wait for an answer.
use Rattle.lt_model.proofs.Voids.{local_by, copy_by, withdraws_ways}
use Rattle.lt_model.proofs.HomesRows.{asks_parked, asks_in, asks_said, asks_carried, asks_sent, Counted, counted, joined_count, less_locks, some_locks, given_locks, answer_adds}
use Rattle.std.proofs.Common.{◌≡◌, ℕ, ◌+◌, ◌<◌, ◌≤◌, List, [], ◌∷◌, ◌++◌, length, map, Option, Some, None, Bool, true, false, refl, ap, arith, take as take_first, drop as drop_front, length-append, ◌==◌, ◌&&◌, not, nat_lt, if◌then◌else◌, fold, remove, sum_by, take-append-drop}
use Rattle.std.proofs.lemmas.List.Edits.{length-remove}
use Rattle.std.proofs.lemmas.List.Sums.{sum_by-cons, sum_by_push}
use Rattle.lt_modes.specs.declared.mode.Mode.{Mode}
use Rattle.lt_modes.specs.declared.stamp.Stamp.{Stamp}
use Rattle.lt_modes.specs.declared.ask.Ask.{Ask}
use Rattle.lt_modes.specs.declared.parts.Link.{Link}
use Rattle.lt_modes.specs.declared.event.Event.TheVariants.{Wait, Freeze}
use Rattle.lt_modes.specs.Modes.{Modes, excludes_itself, is_of, locks_in, held_modes}
use Rattle.lt_modes.specs.State.{SetState, Desk, Body, AskBody, TellBody, CopyBody, TokenBody, FreezeBody, Letter, Parked, ParkedAsk, ParkedTell, Post, silent, post_of, entered, place}
use Rattle.lt_modes.specs.Serving.{queue_of, queue_of_desk, ask_at, serve_one, serve_local, serve_copy, is_gone}
use Rattle.lt_modes.specs.HandingOver.{hand_over_to}
use Rattle.lt_modes.specs.Freezing.{freeze, freeze_at, frozen_by, targets, number_after}
use Rattle.lt_modes.specs.SetMove.{finish, ask_of, asked, dropped, drop, withdrawn, withdraw}
use Rattle.lt_modes.specs.Routing.{Way, Parks, Goes, learn, dealt, body_of, reversed, sent_on, route}
use Rattle.lt_modes.specs.Telling.{tell_of}
use Rattle.lt_modes.specs.Taking.{take_body, arrive, take}
use Rattle.lt_modes.proofs.ServingLemmas.{queue_of-serve_one}
use Rattle.lt_model.specs.Homes.{adds, added_by}
use Rattle.lt_model.proofs.Effects.{route_ways}
use Rattle.lt_model.proofs.TryEffects.{EndRules, ActRules, finish_rule, take_rule}

dealt_count : (desk : Desk) (item : Parked) → length (dealt desk item).queue ≤ length desk.queue + asks_parked item
dealt_count desk (ParkedAsk ask) = enters desk.queue
  where
    enters : (queue : List Ask) → length (entered queue ask) ≤ length queue + 1
    enters queue =
        let k = place queue ask.holder in
        omega (
          arith,
          length-append (take_first k queue) (ask ∷ drop_front k queue),
          length-append (take_first k queue) (drop_front k queue),
          ap (λ (l : List Ask). length l) (take-append-drop k queue),
        )
dealt_count desk (ParkedTell tell) = omega arith

all_dealt_count : (items : List Parked) (desk : Desk) → length (fold dealt desk items).queue ≤ length desk.queue + sum_by asks_parked items
all_dealt_count [] desk = omega arith
all_dealt_count (item ∷ rest) desk =
    omega (arith, all_dealt_count rest (dealt desk item), dealt_count desk item, sum_by-cons asks_parked item rest)

item_said : (item : Parked) (mark : Bool) → asks_said (body_of item mark) ≡ asks_parked item
item_said (ParkedAsk ask) mark = refl
item_said (ParkedTell tell) mark = refl

-- what counts is the same
pub record SameCounts (t u : SetState) : Type 0 where
  pub parked : u.parked ≡ t.parked
  pub queue : queue_of u ≡ queue_of t
  pub held : u.held ≡ t.held

same_asks : (t u : SetState) → SameCounts t u → asks_in u ≡ asks_in t
same_asks t u h = omega (arith, ap (λ (l : List Parked). sum_by asks_parked l) h.parked, ap (λ (l : List Ask). length l) h.queue)

reversed_same : (me : ℕ) (item : Parked) (t : SetState) → SameCounts t (reversed me item t)
reversed_same me (ParkedTell tell) t = record { parked = refl; queue = refl; held = refl }
reversed_same me (ParkedAsk ask) t = by_test (excludes_itself ask.mode && not (ask.node == me))
  where
    by_test : (other : Bool) → SameCounts t (if other then record t { hoped = Some (record { node = ask.node; stamp = ask.stamp }) } else t)
    by_test true = record { parked = refl; queue = refl; held = refl }
    by_test false = record { parked = refl; queue = refl; held = refl }

learn_same : (link : Link) (t : SetState) → SameCounts t (learn link t)
learn_same link t = by_test (nat_lt t.firm.epoch link.epoch)
  where
    by_test : (greater : Bool) → SameCounts t (if greater then record t { firm = link; hoped = None } else t)
    by_test true = record { parked = refl; queue = refl; held = refl }
    by_test false = record { parked = refl; queue = refl; held = refl }

route_count : (set : ℕ) (stamp : Stamp) (marked : Bool) (item : Parked) (t : SetState) → Counted (asks_parked item) t (route set stamp marked item t)
route_count set stamp marked item t =
    route_ways (Counted (asks_parked item) t) set stamp marked item t
    (λ desk e. record {
      asks = omega (arith, dealt_count desk item, ap (λ (o : Option Desk). length (queue_of_desk o)) e);
      locks = omega arith;
    })
    (λ away w e. goes w)
  where
    goes : (w : Way) → Counted (asks_parked item) t (sent_on set stamp item t w)
    goes Parks = record { asks = omega (arith, sum_by_push asks_parked t.parked item); locks = omega arith }
    goes (Goes to mark) =
        let same = reversed_same stamp.node item t in
        record {
          asks = omega (arith, item_said item mark, same_asks t (reversed stamp.node item t) same);
          locks = omega (arith, ap locks_in same.held);
        }

serves_count : (set : ℕ) (stamp : Stamp) (t : SetState) (k : ℕ) → k < length (queue_of t) → Counted 0 t (serve_one set stamp k t)
serves_count set stamp t k within = by_test ((ask_at t k).node == stamp.node) (queue_of-serve_one set stamp k t within)
  where
    by_test : (own : Bool) → queue_of (if own then serve_local set k t else serve_copy set stamp k (ask_at t k) t).state ≡ remove (queue_of t) k
        → Counted 0 t (if own then serve_local set k t else serve_copy set stamp k (ask_at t k) t)
    by_test true queue = by_gone (is_gone t (ask_at t k).client)
      where
        by_gone : (gone : Bool) → Counted 0 t (local_by set k t gone)
        by_gone true = record { asks = omega (arith, ap (λ (l : List Ask). length l) queue, length-remove (queue_of t) k within); locks = omega arith }
        by_gone false = record {
          asks = omega (arith, answer_adds set (ask_at t k), ap (λ (l : List Ask). length l) queue, length-remove (queue_of t) k within);
          locks = omega (arith, answer_adds set (ask_at t k), given_locks (ask_at t k).client (ask_at t k).mode (ask_at t k).gives_up t.held);
        }
    by_test false queue = record {
      asks = omega (arith, ap (λ (l : List Ask). length l) queue, length-remove (queue_of t) k within);
      locks = omega arith;
    }

freezes_count : (set : ℕ) (stamp : Stamp) (t : SetState) → Counted 0 t (freeze set stamp t)
freezes_count set stamp t = by_desk t.desk refl
  where
    no_lines : (number : ℕ) (modes : Modes) (told : List ℕ) → added_by (map (λ x. Freeze set x number modes) told) ≡ 0
    no_lines number modes [] = refl
    no_lines number modes (x ∷ rest) =
        omega (arith, no_lines number modes rest, sum_by-cons adds (Freeze set x number modes) (map (λ y. Freeze set y number modes) rest))

    no_asks : (to_post : ℕ → Post) → ((x : ℕ) → asks_carried (to_post x).letter ≡ 0) → (told : List ℕ) → asks_sent (map to_post told) ≡ 0
    no_asks to_post none [] = refl
    no_asks to_post none (x ∷ rest) =
        omega (arith, none x, no_asks to_post none rest, sum_by-cons (λ (post : Post). asks_carried post.letter) (to_post x) (map to_post rest))

    by_desk : (desk : Option Desk) → t.desk ≡ desk → Counted 0 t (freeze_at set stamp t desk)
    by_desk None e = record { asks = omega arith; locks = omega arith }
    by_desk (Some desk) e =
        let told = targets stamp.node (frozen_by desk.queue) desk in
        record {
          asks = omega (
            arith,
            ap (λ (o : Option Desk). length (queue_of_desk o)) e,
            no_lines (number_after told desk.number) (frozen_by desk.queue) told,
            no_asks (λ x. post_of set stamp t x (FreezeBody (number_after told desk.number) (frozen_by desk.queue))) (λ x. refl) told,
          );
          locks = omega arith;
        }

leaves_count : (set : ℕ) (stamp : Stamp) (t : SetState) (v : ℕ) → Counted 0 t (hand_over_to set stamp t v t.desk)
leaves_count set stamp t v = by_desk t.desk refl
  where
    by_desk : (desk : Option Desk) → t.desk ≡ desk → Counted 0 t (hand_over_to set stamp t v desk)
    by_desk None e = record { asks = omega arith; locks = omega arith }
    by_desk (Some desk) e = record { asks = omega (arith, ap (λ (o : Option Desk). length (queue_of_desk o)) e); locks = omega arith }

pub count_ends : (set : ℕ) (stamp : Stamp) → EndRules set stamp (counted 0)
count_ends set stamp = record {
  silent = λ t. record { asks = omega arith; locks = omega arith };
  joined = λ t m rule first second. joined_count 0 t m rule first second;
  serves = serves_count set stamp;
  freezes = freezes_count set stamp;
  leaves = leaves_count set stamp;
  tells = λ t.
      let told = route_count set stamp false (ParkedTell (tell_of stamp t)) (record t { charge = held_modes t.held }) in
      record { asks = told.asks; locks = told.locks };
}

pub finish_count : (set : ℕ) (stamp : Stamp) (t : SetState) → Counted 0 t (finish set stamp t)
finish_count set stamp t = finish_rule set stamp (counted 0) (count_ends set stamp) t

asks_count : (set : ℕ) (stamp : Stamp) (client : ℕ) (mode : Mode) (gives_up : Option Mode) (t : SetState)
    → Counted 1 t (asked set stamp (ask_of stamp client mode gives_up t) t)
asks_count set stamp client mode gives_up t =
    let ask = ask_of stamp client mode gives_up t in
    let more : SetState = record t { pending = t.pending ++ ask ∷ [] } in
    let routed = route_count set stamp false (ParkedAsk ask) more in
    let made = route set stamp false (ParkedAsk ask) more in
    record {
      asks = omega (arith, routed.asks, sum_by-cons adds (Wait client set mode) made.events);
      locks = omega (arith, routed.locks, sum_by-cons adds (Wait client set mode) made.events);
    }

pub count_acts : (set : ℕ) (stamp : Stamp) (client : ℕ) → ActRules set stamp client (counted 1)
count_acts set stamp client = record {
  tries_not = λ mode t. record { asks = omega arith; locks = omega arith };
  holds_not = λ mode t. record { asks = omega arith; locks = omega arith };
  grants = λ mode t. record { asks = omega arith; locks = omega (arith, given_locks client mode None t.held) };
  tries = λ mode t. record { asks = omega arith; locks = omega (arith, given_locks client mode None t.held) };
  changes = λ gives_up mode t. record { asks = omega arith; locks = omega (arith, given_locks client mode (Some gives_up) t.held) };
  releases = λ mode t. record { asks = omega arith; locks = omega (arith, less_locks client mode t.held) };
  asks = asks_count set stamp client;
  retakes = λ mode t. record { asks = omega arith; locks = omega arith };
  withheld = λ mode t. record { asks = omega arith; locks = omega arith };
  ended = λ t m a. joined_count 1 t m (finish set stamp) a (finish_count set stamp m.state);
}

pub drop_count : (set : ℕ) (stamp : Stamp) (other : ℕ) (t : SetState) → Counted 0 t (drop set stamp other t)
drop_count set stamp other t =
    let ended = finish_count set stamp (dropped other t) in
    record {
      asks = omega (arith, ended.asks);
      locks = omega (arith, ended.locks, some_locks (λ row. not (is_of other row)) t.held);
    }

pub withdraw_count : (set : ℕ) (stamp : Stamp) (client other : ℕ) (t : SetState) → Counted 1 t (withdraw set stamp client other t)
withdraw_count set stamp client other t =
    joined_count 1 t (withdrawn set client other t) (finish set stamp)
    (withdraws_ways (Counted 1 t) set client other t (λ waiting. record { asks = omega arith; locks = omega arith }) (λ idle. record { asks = omega arith; locks = omega arith }))
    (finish_count set stamp (withdrawn set client other t).state)

arrives_count : (stamp : Stamp) (letter : Letter) (t : SetState) → Counted (asks_said letter.body) t (arrive stamp letter t)
arrives_count stamp letter t =
    let same = learn_same letter.link t in
    let made = by_body letter.body (learn letter.link t) in
    record {
      asks = omega (arith, made.asks, same_asks t (learn letter.link t) same);
      locks = omega (arith, made.locks, ap locks_in same.held);
    }
  where
    by_body : (body : Body) (u : SetState) → Counted (asks_said body) u (take_body letter.set stamp body u)
    by_body (AskBody ask marked) u = route_count letter.set stamp marked (ParkedAsk ask) u
    by_body (TellBody tell) u = route_count letter.set stamp false (ParkedTell tell) u
    by_body (CopyBody ask) u = by_gone (is_gone u ask.client)
      where
        by_gone : (gone : Bool) → Counted (asks_said (CopyBody ask)) u (copy_by letter.set ask u gone)
        by_gone true = record { asks = omega arith; locks = omega arith }
        by_gone false = record {
          asks = omega (arith, answer_adds letter.set ask);
          locks = omega (arith, answer_adds letter.set ask, given_locks ask.client ask.mode ask.gives_up u.held);
        }
    by_body (TokenBody desk) u = record { asks = omega (arith, all_dealt_count u.parked desk); locks = omega arith }
    by_body (FreezeBody number modes) u = by_test (nat_lt u.number number)
      where
        by_test : (newer : Bool) → Counted 0 u (silent (if newer then record u { frozen = modes; number = number } else u))
        by_test true = record { asks = omega arith; locks = omega arith }
        by_test false = record { asks = omega arith; locks = omega arith }

pub take_count : (stamp : Stamp) (letter : Letter) (t : SetState) → Counted (asks_said letter.body) t (take stamp letter t)
take_count stamp letter t =
    take_rule stamp letter (counted (asks_said letter.body)) (counted 0) (λ u m. joined_count (asks_said letter.body) u m (finish letter.set stamp))
    (count_ends letter.set stamp) t (arrives_count stamp letter t)
