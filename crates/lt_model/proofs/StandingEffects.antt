-- The effects of a move leave each unanswered ask in one place.
use Rattle.lt_model.proofs.SentInMove.{places_weight, places_sent, IsCopyHome, AreApart, Stands, stands, places_sent-one, places_sent-none, moved_on, dealt_times, all_dealt_times, item_places, item_home, SameAsks, reversed_asks, same_places}
use Rattle.std.proofs.Common.{◌≡◌, ◌≢◌, ℕ, suc, ◌+◌, ◌<◌, ◌≤◌, List, [], ◌∷◌, ◌++◌, length, Option, Some, None, Bool, true, false, refl, sym, ap, subst, arith, ◌∙◌, ◌==◌, nat_lt, if◌then◌else◌, All, Contains, remove, position, is_some, eq-eqb, eqb-true, append-nil}
use Rattle.std.proofs.lemmas.List.Elements.{All-push, All-append, All-take, All-drop, All-weaker, Contains-get_or}
use Rattle.std.proofs.lemmas.List.Quantifiers.{all_pairs_push}
use Rattle.std.proofs.lemmas.List.Sums.{sum_by-cons, sum_by_push}
use Rattle.lt_modes.specs.declared.stamp.Stamp.{Stamp}
use Rattle.lt_modes.specs.declared.ask.Ask.{Ask}
use Rattle.lt_modes.specs.declared.parts.Link.{Link}
use Rattle.lt_modes.specs.Modes.{held_modes}
use Rattle.lt_modes.specs.State.{SetState, Desk, Body, AskBody, TellBody, CopyBody, TokenBody, FreezeBody, Letter, Parked, ParkedAsk, ParkedTell, Post, silent, same_ask, has_stamp, without, without_at, no_ask, times_in}
use Rattle.lt_modes.specs.Serving.{queue_of, queue_of_desk, ask_at, next_service, serve_one, serve_local, serve_copy}
use Rattle.lt_modes.specs.HandingOver.{hand_over_to}
use Rattle.lt_modes.specs.Freezing.{freeze, freeze_at, frozen_by, targets}
use Rattle.lt_modes.specs.SetMove.{ask_of, asked}
use Rattle.lt_modes.specs.Routing.{Way, Parks, Goes, learn, dealt, body_of, reversed, sent_on, route}
use Rattle.lt_modes.specs.Telling.{tell_of}
use Rattle.lt_modes.specs.Taking.{take_body, arrive, take}
use Rattle.lt_modes.proofs.ServingLemmas.{queue_of-serve_one}
use Rattle.lt_spec.specs.Facts.{times_parked, places_in_state, places_in_body, tokens_in}
use Rattle.lt_lists.specs.Below.{one_if}
use Rattle.lt_model.specs.Invariant.{IsMadeBy}
use Rattle.lt_lists.proofs.AllLemmas.{all_map, all_any}
use Rattle.lt_law_accounts.proofs.Asks.{times_in-some, times_in-found, times_in-push, times_in-remove, times_in-without, same_ask-itself, without_apart}
use Rattle.lt_model.proofs.Effects.{HoldsOf, EndEffects, ActEffects, ByEffects, route_ways, holds_silent, acts_by_effects, take_by_effects, next_service-within}

-- an ask or a tell in hand finds its place
route-stands : (s clock : ℕ) (before elsewhere unanswered : Ask → ℕ) (stamp : Stamp) (marked : Bool) (item : Parked) (t : SetState) (posts : List Post)
    → ((a : Ask) → before a ≡ elsewhere a + times_parked a item) → Stands s stamp.node clock before unanswered t posts
    → HoldsOf (stands s stamp.node clock elsewhere unanswered) posts (route s stamp marked item t)
route-stands s clock before elsewhere unanswered stamp marked item t posts hand h =
    route_ways (HoldsOf (stands s stamp.node clock elsewhere unanswered) posts) s stamp marked item t
    (λ desk e. moved_on s stamp.node clock before elsewhere unanswered t (record t { desk = Some (dealt desk item) }) posts [] h refl
    (λ a. omega (arith, hand a, dealt_times a desk item, ap (λ (o : Option Desk). times_in a (queue_of_desk o)) e)) tt)
    (λ away w e. goes w)
  where
    goes : (w : Way) → HoldsOf (stands s stamp.node clock elsewhere unanswered) posts (sent_on s stamp item t w)
    goes Parks = moved_on s stamp.node clock before elsewhere unanswered t (record t { parked = t.parked ++ item ∷ [] }) posts [] h refl
        (λ a. omega (arith, hand a, sum_by_push (times_parked a) t.parked item)) tt
    goes (Goes to mark) =
        let same = reversed_asks stamp.node item t in
        moved_on s stamp.node clock before elsewhere unanswered t (reversed stamp.node item t) posts (sent_on s stamp item t (Goes to mark)).posts h same.pending
        (λ a. omega (
          arith,
          hand a,
          same_places a t (reversed stamp.node item t) same,
          places_sent-one s a (record { to = to; letter = record { stamp = stamp; set = s; link = t.firm; body = body_of item mark } }) refl,
          item_places a item mark,
        )) ((λ e. item_home to item mark), tt)

-- an unanswered ask of the node that stands here is one of those that it waits for
pub found_here : (s me clock : ℕ) (elsewhere unanswered : Ask → ℕ) (t : SetState) (posts : List Post) (b : Ask) → Stands s me clock elsewhere unanswered t posts
    → unanswered b ≡ 0 → 1 ≤ places_in_state b t + elsewhere b → Contains t.pending b
found_here s me clock elsewhere unanswered t posts b h none some = times_in-found b t.pending (omega (arith, h.once b, none, some))

-- the ask that is answered leaves the unanswered ones
answered_off : (s me clock : ℕ) (before elsewhere unanswered : Ask → ℕ) (t u : SetState) (posts : List Post) (b : Ask) → Stands s me clock before unanswered t posts
    → Contains t.pending b → u.pending ≡ without t.pending b.stamp
    → ((a : Ask) → places_in_state a u + elsewhere a + one_if (same_ask a b) ≡ places_in_state a t + before a)
    → Stands s me clock elsewhere unanswered u posts
answered_off s me clock before elsewhere unanswered t u posts b h found gone even = record {
  once = λ a. omega (arith, h.once a, even a, times_in-without a b t.pending h.apart found, ap (times_in a) gone);
  own = subst (λ (l : List Ask). All (IsMadeBy me clock) l) (sym gone) (without_all t.pending (position (has_stamp b.stamp) t.pending) h.own);
  apart = subst AreApart (sym gone) (without_apart t.pending b.stamp h.apart);
  copies = h.copies;
}
  where
    without_all : (asks : List Ask) (o : Option ℕ) → All (IsMadeBy me clock) asks → All (IsMadeBy me clock) (without_at asks o)
    without_all asks None all = all
    without_all asks (Some k) all =
        All-append (IsMadeBy me clock) _ _ (All-take (IsMadeBy me clock) k asks all) (All-drop (IsMadeBy me clock) (suc k) asks all)

-- one service
serves-stands : (s clock : ℕ) (elsewhere unanswered : Ask → ℕ) (stamp : Stamp) → ((a : Ask) → a.node ≡ stamp.node → unanswered a ≡ 0)
    → (t : SetState) (posts : List Post) (k : ℕ) → next_service stamp.node t ≡ Some k → Stands s stamp.node clock elsewhere unanswered t posts
    → HoldsOf (stands s stamp.node clock elsewhere unanswered) posts (serve_one s stamp k t)
serves-stands s clock elsewhere unanswered stamp only t posts k e h =
    by_test ((ask_at t k).node == stamp.node) refl (queue_of-serve_one s stamp k t within)
  where
    within : k < length (queue_of t)
    within = next_service-within stamp.node t k e

    leaves_queue : (a : Ask) → times_in a (remove (queue_of t) k) + one_if (same_ask a (ask_at t k)) ≡ times_in a (queue_of t)
    leaves_queue a = times_in-remove a (queue_of t) k within

    by_test : (own : Bool) → ((ask_at t k).node == stamp.node) ≡ own
        → queue_of (if own then serve_local s k t else serve_copy s stamp k (ask_at t k) t).state ≡ remove (queue_of t) k
        → HoldsOf (stands s stamp.node clock elsewhere unanswered) posts (if own then serve_local s k t else serve_copy s stamp k (ask_at t k) t)
    by_test true at_home queue =
        let b = ask_at t k in
        let stands_here = times_in-some b (queue_of t) (Contains-get_or (queue_of t) k no_ask within) in
        let found = found_here s stamp.node clock elsewhere unanswered t posts b h (only b (eqb-true b.node stamp.node at_home)) (omega (arith, stands_here)) in
        subst (Stands s stamp.node clock elsewhere unanswered (serve_local s k t).state) (sym (append-nil posts))
        (answered_off s stamp.node clock elsewhere elsewhere unanswered t (serve_local s k t).state posts b h found refl
        (λ a. omega (arith, leaves_queue a, ap (times_in a) queue)))
    by_test false away queue =
        moved_on s stamp.node clock elsewhere elsewhere unanswered t (serve_copy s stamp k (ask_at t k) t).state posts
        (serve_copy s stamp k (ask_at t k) t).posts h refl
        (λ a. omega (
          arith,
          leaves_queue a,
          ap (times_in a) queue,
          places_sent-one s a (record { to = (ask_at t k).node; letter = record { stamp = stamp; set = s; link = t.firm; body = CopyBody (ask_at t k) } }) refl,
        )) ((λ same. refl), tt)

freezes-stands : (s clock : ℕ) (elsewhere unanswered : Ask → ℕ) (stamp : Stamp) (t : SetState) (posts : List Post)
    → Stands s stamp.node clock elsewhere unanswered t posts → HoldsOf (stands s stamp.node clock elsewhere unanswered) posts (freeze s stamp t)
freezes-stands s clock elsewhere unanswered stamp t posts h = by_desk t.desk refl
  where
    by_desk : (desk : Option Desk) → t.desk ≡ desk → HoldsOf (stands s stamp.node clock elsewhere unanswered) posts (freeze_at s stamp t desk)
    by_desk None e = holds_silent (stands s stamp.node clock elsewhere unanswered) posts t h
    by_desk (Some desk) e =
        let m = freeze_at s stamp t (Some desk) in
        let told = targets stamp.node (frozen_by desk.queue) desk in
        moved_on s stamp.node clock elsewhere elsewhere unanswered t m.state posts m.posts h refl
        (λ a. omega (
          arith,
          ap (λ (o : Option Desk). times_in a (queue_of_desk o)) e,
          places_sent-none s a m.posts (all_map _ _ told (all_any _ (λ x. rw (eq-eqb s s refl) refl) told)),
        ))
        (all_map _ _ told (all_any _ (λ x. λ same. tt) told))

leaves-stands : (s v clock : ℕ) (elsewhere unanswered : Ask → ℕ) (stamp : Stamp) (t : SetState) (posts : List Post)
    → Stands s stamp.node clock elsewhere unanswered t posts → HoldsOf (stands s stamp.node clock elsewhere unanswered) posts (hand_over_to s stamp t v t.desk)
leaves-stands s v clock elsewhere unanswered stamp t posts h = by_desk t.desk refl
  where
    by_desk : (desk : Option Desk) → t.desk ≡ desk → HoldsOf (stands s stamp.node clock elsewhere unanswered) posts (hand_over_to s stamp t v desk)
    by_desk None e = holds_silent (stands s stamp.node clock elsewhere unanswered) posts t h
    by_desk (Some desk) e =
        let m = hand_over_to s stamp t v (Some desk) in
        moved_on s stamp.node clock elsewhere elsewhere unanswered t m.state posts m.posts h refl
        (λ a. omega (
          arith,
          ap (λ (o : Option Desk). times_in a (queue_of_desk o)) e,
          sum_by-cons (λ (p : Post). places_weight s a p.letter) (first_post m.posts) [],
          carried a desk,
        )) ((λ same. tt), tt)
      where
        first_post : List Post → Post
        first_post [] = record { to = 0; letter = record { stamp = stamp; set = s; link = t.firm; body = TokenBody desk } }
        first_post (post ∷ rest) = post

        carried : (a : Ask) (d : Desk) → places_sent s a (hand_over_to s stamp t v (Some d)).posts ≡ times_in a d.queue
        carried a d = rw (eq-eqb s s refl) (omega arith)

-- from the first effect to the end of the move
pub standing_ends : (s clock : ℕ) (elsewhere unanswered : Ask → ℕ) (stamp : Stamp) → ((a : Ask) → a.node ≡ stamp.node → unanswered a ≡ 0)
    → EndEffects s stamp (stands s stamp.node clock elsewhere unanswered) (stands s stamp.node clock elsewhere unanswered) (stands s stamp.node clock elsewhere unanswered)
standing_ends s clock elsewhere unanswered stamp only = record {
  serves = serves-stands s clock elsewhere unanswered stamp only;
  freezes = λ t posts desk here none h. freezes-stands s clock elsewhere unanswered stamp t posts h;
  leaves = λ t posts k e h. leaves-stands s (ask_at t k).node clock elsewhere unanswered stamp t posts h;
  stays = λ t posts e h. h;
  tells = λ t posts away differs h.
      route-stands s clock elsewhere elsewhere unanswered stamp false (ParkedTell (tell_of stamp t)) (record t { charge = held_modes t.held }) posts
      (λ a. omega arith) (record { once = h.once; own = h.own; apart = h.apart; copies = h.copies });
  tells_not = λ t posts away same h. h;
}

own_later : (me clock later : ℕ) → clock ≤ later → (asks : List Ask) → All (IsMadeBy me clock) asks → All (IsMadeBy me later) asks
own_later me clock later grows asks h = All-weaker (IsMadeBy me clock) (IsMadeBy me later) (λ a own. (own.0, omega (arith, own.1, grows))) asks h

pub stands_later : (s me clock later : ℕ) (elsewhere unanswered : Ask → ℕ) (t : SetState) (posts : List Post) → clock ≤ later
    → Stands s me clock elsewhere unanswered t posts → Stands s me later elsewhere unanswered t posts
stands_later s me clock later elsewhere unanswered t posts grows h =
    record { once = h.once; own = own_later me clock later grows t.pending h.own; apart = h.apart; copies = h.copies }

-- a new ask
pub asks-stands : (s clock : ℕ) (elsewhere unanswered : Ask → ℕ) (stamp : Stamp) (ask : Ask) (t : SetState) (posts : List Post) → clock < stamp.clock
    → ask.stamp ≡ stamp → ask.node ≡ stamp.node → Stands s stamp.node clock elsewhere unanswered t posts
    → HoldsOf (stands s stamp.node stamp.clock elsewhere unanswered) posts (asked s stamp ask t)
asks-stands s clock elsewhere unanswered stamp ask t posts grows made me h =
    let asks_more : SetState = record t { pending = t.pending ++ ask ∷ [] } in
    route-stands s stamp.clock (λ a. elsewhere a + one_if (same_ask a ask)) elsewhere unanswered stamp false (ParkedAsk ask) asks_more posts (λ a. refl)
    (record {
      once = λ a. omega (arith, h.once a, times_in-push a ask t.pending);
      own = All-push (IsMadeBy stamp.node stamp.clock) t.pending ask (own_later stamp.node clock stamp.clock (omega (arith, grows)) t.pending h.own)
          (me, omega (arith, ap (λ (z : Stamp). z.clock) made));
      apart = all_pairs_push (λ (a b : Ask). a.stamp ≢ b.stamp) t.pending ask h.apart
          (λ k d below. λ same. omega (arith, (h.own k d below).1, grows, ap (λ (z : Stamp). z.clock) (same ∙ made)));
      copies = h.copies;
    })

pub standing_acts : (s below : ℕ) (elsewhere unanswered : Ask → ℕ) (stamp : Stamp) → stamp.clock ≡ below + 1
    → ActEffects s stamp (stands s stamp.node below elsewhere unanswered) (stands s stamp.node stamp.clock elsewhere unanswered)
standing_acts s below elsewhere unanswered stamp clock = record {
  nothing = λ t posts h. later t posts h;
  grants = λ client mode t posts e h. let n = later t posts h in record { once = n.once; own = n.own; apart = n.apart; copies = n.copies };
  changes = λ client gives_up mode t posts holds e h. let n = later t posts h in record { once = n.once; own = n.own; apart = n.apart; copies = n.copies };
  releases = λ client mode t posts e h. let n = later t posts h in record { once = n.once; own = n.own; apart = n.apart; copies = n.copies };
  drops = λ client t posts h. let n = later t posts h in record { once = n.once; own = n.own; apart = n.apart; copies = n.copies };
  withdraws = λ other t posts waiting h. let n = later t posts h in record { once = n.once; own = n.own; apart = n.apart; copies = n.copies };
  retakes = λ ask t posts gone same h. let n = later t posts h in record { once = n.once; own = n.own; apart = n.apart; copies = n.copies };
  asks = λ client mode t posts e free h. asks-stands s below elsewhere unanswered stamp (ask_of stamp client mode None t) t posts (omega (arith, clock)) refl refl h;
  change_asks = λ client gives_up mode t posts holds e free h.
      asks-stands s below elsewhere unanswered stamp (ask_of stamp client mode (Some gives_up) t) t posts (omega (arith, clock)) refl refl h;
}
  where
    later : (t : SetState) (posts : List Post) → Stands s stamp.node below elsewhere unanswered t posts → Stands s stamp.node stamp.clock elsewhere unanswered t posts
    later t posts h = stands_later s stamp.node below stamp.clock elsewhere unanswered t posts (omega (arith, clock)) h

-- the commands of a client
pub standing_moves : (s below : ℕ) (elsewhere unanswered : Ask → ℕ) (stamp : Stamp) → stamp.clock ≡ below + 1 → ((a : Ask) → a.node ≡ stamp.node → unanswered a ≡ 0)
    → ByEffects s stamp (stands s stamp.node below elsewhere unanswered) (stands s stamp.node stamp.clock elsewhere unanswered)
standing_moves s below elsewhere unanswered stamp clock only =
    acts_by_effects s stamp _ _ _ _ (standing_acts s below elsewhere unanswered stamp clock) (standing_ends s stamp.clock elsewhere unanswered stamp only)

learn_asks : (link : Link) (t : SetState) → SameAsks t (learn link t)
learn_asks link t = by_test (nat_lt t.firm.epoch link.epoch)
  where
    by_test : (greater : Bool) → SameAsks t (if greater then record t { firm = link; hoped = None } else t)
    by_test true = record { pending = refl; parked = refl; desk = refl }
    by_test false = record { pending = refl; parked = refl; desk = refl }

-- a letter in hand, whose asks count as standing elsewhere until it has arrived
pub arrives-stands : (s clock : ℕ) (elsewhere unanswered : Ask → ℕ) (stamp : Stamp) (letter : Letter) (t : SetState) → letter.set ≡ s
    → ((a : Ask) → a.node ≡ stamp.node → unanswered a ≡ 0) → IsCopyHome stamp.node letter.body → one_if (is_some t.desk) + tokens_in letter.body ≤ 1
    → Stands s stamp.node clock (λ a. elsewhere a + places_in_body a letter.body) unanswered t []
    → HoldsOf (stands s stamp.node clock elsewhere unanswered) [] (arrive stamp letter t)
arrives-stands s clock elsewhere unanswered stamp letter t set only home few h =
    let same = learn_asks letter.link t in
    let u = learn letter.link t in
    by_body letter.body u home (omega (arith, few, ap (λ (o : Option Desk). one_if (is_some o)) same.desk))
    (moved_on s stamp.node clock (λ a. elsewhere a + places_in_body a letter.body) (λ a. elsewhere a + places_in_body a letter.body) unanswered t u [] [] h same.pending
    (λ a. omega (arith, same_places a t u same)) tt)
  where
    by_body : (body : Body) (u : SetState) → IsCopyHome stamp.node body → one_if (is_some u.desk) + tokens_in body ≤ 1
        → Stands s stamp.node clock (λ a. elsewhere a + places_in_body a body) unanswered u []
        → HoldsOf (stands s stamp.node clock elsewhere unanswered) [] (take_body letter.set stamp body u)
    by_body (AskBody ask marked) u at_home one hu =
        subst (λ (k : ℕ). HoldsOf (stands s stamp.node clock elsewhere unanswered) [] (route k stamp marked (ParkedAsk ask) u)) (sym set)
        (route-stands s clock (λ a. elsewhere a + one_if (same_ask a ask)) elsewhere unanswered stamp marked (ParkedAsk ask) u [] (λ a. refl) hu)
    by_body (TellBody tell) u at_home one hu =
        subst (λ (k : ℕ). HoldsOf (stands s stamp.node clock elsewhere unanswered) [] (route k stamp false (ParkedTell tell) u)) (sym set)
        (route-stands s clock (λ a. elsewhere a + 0) elsewhere unanswered stamp false (ParkedTell tell) u [] (λ a. refl) hu)
    by_body (CopyBody ask) u at_home one hu =
        let here : one_if (same_ask ask ask) ≡ 1 = ap one_if (same_ask-itself ask) in
        let found = found_here s stamp.node clock (λ a. elsewhere a + one_if (same_ask a ask)) unanswered u [] ask hu (only ask at_home) (omega (arith, here)) in
        answered_off s stamp.node clock (λ a. elsewhere a + one_if (same_ask a ask)) elsewhere unanswered u (take_body letter.set stamp (CopyBody ask) u).state [] ask hu found refl
        (λ a. omega arith)
    by_body (TokenBody desk) u at_home one hu = by_desk u.desk refl one
      where
        by_desk : (o : Option Desk) → u.desk ≡ o → one_if (is_some o) + 1 ≤ 1
            → HoldsOf (stands s stamp.node clock elsewhere unanswered) [] (take_body letter.set stamp (TokenBody desk) u)
        by_desk (Some d) e two = absurd (omega (arith, two))
        by_desk None e fine =
            moved_on s stamp.node clock (λ a. elsewhere a + times_in a desk.queue) elsewhere unanswered u (take_body letter.set stamp (TokenBody desk) u).state [] [] hu refl
            (λ a. omega (arith, all_dealt_times a u.parked desk, ap (λ (p : Option Desk). times_in a (queue_of_desk p)) e)) tt
    by_body (FreezeBody number modes) u at_home one hu = by_test (nat_lt u.number number)
      where
        by_test : (newer : Bool) → HoldsOf (stands s stamp.node clock elsewhere unanswered) [] (silent (if newer then record u { frozen = modes; number = number } else u))
        by_test true = moved_on s stamp.node clock (λ a. elsewhere a + 0) elsewhere unanswered u (record u { frozen = modes; number = number }) [] [] hu refl (λ a. omega arith) tt
        by_test false = moved_on s stamp.node clock (λ a. elsewhere a + 0) elsewhere unanswered u u [] [] hu refl (λ a. omega arith) tt

-- the take of a letter
pub standing_take : (s clock : ℕ) (elsewhere unanswered : Ask → ℕ) (stamp : Stamp) (letter : Letter) (t : SetState) → letter.set ≡ s
    → ((a : Ask) → a.node ≡ stamp.node → unanswered a ≡ 0) → IsCopyHome stamp.node letter.body → one_if (is_some t.desk) + tokens_in letter.body ≤ 1
    → Stands s stamp.node clock (λ a. elsewhere a + places_in_body a letter.body) unanswered t []
    → HoldsOf (stands s stamp.node clock elsewhere unanswered) [] (take stamp letter t)
standing_take s clock elsewhere unanswered stamp letter t set only home few h =
    let ends = subst (λ (k : ℕ). EndEffects k stamp (stands s stamp.node clock elsewhere unanswered) (stands s stamp.node clock elsewhere unanswered)
    (stands s stamp.node clock elsewhere unanswered)) (sym set) (standing_ends s clock elsewhere unanswered stamp only) in
    take_by_effects stamp letter _ _ _ ends t [] (arrives-stands s clock elsewhere unanswered stamp letter t set only home few h)
