-- What the effects of a move do to the token moves that may still come: a service, freezes, the desk that leaves, letters sent on.
use Rattle.std.proofs.Common.{◌≡◌, ◌⊎◌, inl, inr, ℕ, ◌+◌, ◌<◌, ◌≤◌, List, [], ◌∷◌, ◌++◌, length, map, Option, Some, None, Bool, true, false, refl, sym, ap, subst, arith, ◌∙◌, take as take_first, drop as drop_front, ◌==◌, ◌&&◌, not, if◌then◌else◌, fold, remove, sum_by, slice_set, slice_index_or, eq-eqb, take-append-drop}
use Rattle.std.proofs.lemmas.Bool.{false≢true}
use Rattle.std.proofs.lemmas.List.Sums.{sum_by-append, sum_by-cons, sum_by_push, sum_by-remove}
use Rattle.lt_modes.specs.declared.stamp.Stamp.{Stamp}
use Rattle.lt_modes.specs.declared.ask.Ask.{Ask}
use Rattle.lt_modes.specs.Modes.{Modes, no_modes, excludes_itself, bars, same_modes, held_modes}
use Rattle.lt_modes.specs.State.{SetState, Desk, Body, CopyBody, TokenBody, FreezeBody, Letter, Parked, ParkedAsk, ParkedTell, Made, Post, silent, post_of, place, no_ask, entry_of}
use Rattle.lt_modes.specs.Serving.{queue_of, queue_of_desk, put_queue, owed_at, owing, ask_at, next_service, served, serve_one, serve_local, serve_copy}
use Rattle.lt_modes.specs.HandingOver.{draw_from, move_at, next_draw, hand_over_to, leaving}
use Rattle.lt_modes.specs.Freezing.{freeze, freeze_at, frozen_by, targets, number_after}
use Rattle.lt_modes.specs.SetMove.{make_tell, asked}
use Rattle.lt_modes.specs.Routing.{Way, Parks, Goes, dealt, body_of, reversed, sent_on, route}
use Rattle.lt_modes.specs.Telling.{tell_of}
use Rattle.lt_spec.specs.Facts.{tokens_in}
use Rattle.lt_model.specs.PathEffects.{posts_weight}
use Rattle.lt_model.proofs.Effects.{Fact, HoldsOf, route_ways}
use Rattle.lt_law_ends.specs.Weights.{is_sure, away, queue_potential, desk_potential, token_potential, parked_potential, due_potential, here_potential, state_potential, body_potential}
use Rattle.lt_law_ends.proofs.SureAsks.{IsDrawn, draws_from}
use Rattle.lt_law_ends.proofs.EffectWeights.{same_itself}

-- what is sent: a token that is sent is one move more
abbrev pub sent_body : ℕ → Body → ℕ
sent_body v body = body_potential v body + tokens_in body

abbrev pub sent_potential : ℕ → Letter → ℕ
sent_potential s letter = if letter.set == s then sent_body letter.link.node letter.body else 0

own_post : (s : ℕ) (stamp : Stamp) (t : SetState) (to : ℕ) (body : Body) → sent_potential s (post_of s stamp t to body).letter ≡ sent_body t.firm.node body
own_post s stamp t to body = rw (eq-eqb s s refl) refl

pub away_most : (v : ℕ) (queue : List Ask) → away v queue ≤ 1
away_most v [] = omega arith
away_most v (ask ∷ rest) = by_test (ask.node == v)
  where
    by_test : (own : Bool) → (if own then 0 else 1) ≤ 1
    by_test true = omega arith
    by_test false = omega arith

pub due_at_most : (same : Bool) → due_potential same ≤ 2
due_at_most true = omega arith
due_at_most false = omega arith

-- within a budget: what the node keeps by now, with what was sent so far
abbrev pub Keeps : ℕ → ℕ → ℕ → Fact
Keeps v s budget t posts = state_potential v t + posts_weight (sent_potential s) posts ≤ budget

-- the same with some left
abbrev pub KeepsWith : ℕ → ℕ → ℕ → ℕ → Fact
KeepsWith cost v s budget t posts = state_potential v t + posts_weight (sent_potential s) posts + cost ≤ budget

-- what is parked and queued, without where the first ask is
abbrev pub base_potential : SetState → ℕ
base_potential t = sum_by parked_potential t.parked + queue_potential (queue_of t)

-- or a service is to come that pays for it
abbrev pub Owes : ℕ → ℕ → ℕ → Fact
Owes v s budget t posts =
    Keeps v s budget t posts ⊎ ((k : ℕ) × (next_service v t ≡ Some k) × (base_potential t + posts_weight (sent_potential s) posts ≤ budget))

-- what an effect makes: at most so much more
abbrev pub Adds : ℕ → ℕ → ℕ → SetState → Made → Type 0
Adds v s more t m = state_potential v m.state + posts_weight (sent_potential s) m.posts ≤ state_potential v t + more

pub keeps_then : (v s more budget : ℕ) (t : SetState) (posts : List Post) (m : Made) → Adds v s more t m
    → state_potential v t + posts_weight (sent_potential s) posts + more ≤ budget → HoldsOf (Keeps v s budget) posts m
keeps_then v s more budget t posts m h room =
    omega (arith, h, room, sum_by-append (λ (post : Post). sent_potential s post.letter) posts m.posts)

-- a service pays
pub serves_potential : (v s : ℕ) (stamp : Stamp) (t : SetState) (k : ℕ) → k < length (queue_of t)
    → state_potential v (serve_one s stamp k t).state + posts_weight (sent_potential s) (serve_one s stamp k t).posts ≤ base_potential t
serves_potential v s stamp t k within = by_desk t.desk refl
  where
    by_desk : (desk : Option Desk) → t.desk ≡ desk
        → state_potential v (serve_one s stamp k t).state + posts_weight (sent_potential s) (serve_one s stamp k t).posts ≤ base_potential t
    by_desk None e = absurd (omega (arith, within, ap (λ (o : Option Desk). length (queue_of_desk o)) e))
    by_desk (Some desk) e = by_test ((ask_at t k).node == stamp.node)
      where
        inside : k < length desk.queue
        inside = omega (arith, within, ap (λ (o : Option Desk). length (queue_of_desk o)) e)

        less : queue_potential (remove desk.queue k) + 4 ≡ queue_potential desk.queue
        less = sum_by-remove (λ (ask : Ask). 4) desk.queue k no_ask inside

        by_test : (own : Bool)
            → state_potential v (if own then serve_local s k t else serve_copy s stamp k (ask_at t k) t).state
            + posts_weight (sent_potential s) (if own then serve_local s k t else serve_copy s stamp k (ask_at t k) t).posts ≤ base_potential t
        by_test true =
            let after : Desk = record desk { queue = remove desk.queue k } in
            let there : put_queue (remove (queue_of t) k) t.desk ≡ Some after = ap (λ (o : Option Desk). put_queue (remove (queue_of_desk o) k) o) e in
            omega (
              arith,
              ap (λ (o : Option Desk). queue_potential (queue_of_desk o)) e,
              ap (here_potential v (served t k).held t.charge) there,
              less,
              away_most v (remove desk.queue k),
            )
        by_test false =
            let ask = ask_at t k in
            let after : Desk = record (record desk { entries = slice_set desk.entries ask.node (owing ask (entry_of desk ask.node)) }) { queue = remove desk.queue k } in
            let there : owed_at ask k t.desk ≡ Some after = ap (owed_at ask k) e in
            omega (
              arith,
              ap (λ (o : Option Desk). queue_potential (queue_of_desk o)) e,
              ap (here_potential v t.held t.charge) there,
              less,
              away_most v (remove desk.queue k),
              own_post s stamp t ask.node (CopyBody ask),
            )

-- with the desk here there is more than the queue
pub base_less : (v : ℕ) (t : SetState) (k : ℕ) → k < length (queue_of t) → base_potential t ≤ state_potential v t
base_less v t k within = by_desk t.desk within
  where
    by_desk : (desk : Option Desk) → k < length (queue_of_desk desk)
        → sum_by parked_potential t.parked + queue_potential (queue_of_desk desk) ≤ sum_by parked_potential t.parked + here_potential v t.held t.charge desk
    by_desk None h = absurd (omega (arith, h))
    by_desk (Some desk) h = omega arith

pub freezes_potential : (v s : ℕ) (stamp : Stamp) (t : SetState) → Adds v s 0 t (freeze s stamp t)
freezes_potential v s stamp t = by_desk t.desk refl
  where
    letters : (number : ℕ) (frozen : Modes) (told_nodes : List ℕ)
        → posts_weight (sent_potential s) (map (λ x. post_of s stamp t x (FreezeBody number frozen)) told_nodes) ≡ 0
    letters number frozen [] = refl
    letters number frozen (x ∷ rest) = omega (
      arith,
      letters number frozen rest,
      own_post s stamp t x (FreezeBody number frozen),
      sum_by-cons (λ (post : Post). sent_potential s post.letter) (post_of s stamp t x (FreezeBody number frozen))
          (map (λ y. post_of s stamp t y (FreezeBody number frozen)) rest),
    )

    by_desk : (desk : Option Desk) → t.desk ≡ desk → Adds v s 0 t (freeze_at s stamp t desk)
    by_desk None e = omega arith
    by_desk (Some desk) e =
        let told_nodes = targets stamp.node (frozen_by desk.queue) desk in
        omega (
          arith,
          ap (here_potential v t.held t.charge) e,
          letters (number_after told_nodes desk.number) (frozen_by desk.queue) told_nodes,
        )

-- the desk is drawn away
pub leaves_potential : (s : ℕ) (stamp : Stamp) (t : SetState) (k : ℕ) → next_draw stamp.node t ≡ Some k
    → Adds stamp.node s 0 t (hand_over_to s stamp t (ask_at t k).node t.desk)
leaves_potential s stamp t k draw = by_desk t.desk refl draw
  where
    by_desk : (desk : Option Desk) → t.desk ≡ desk → move_at stamp.node t desk ≡ Some k
        → Adds stamp.node s 0 t (hand_over_to s stamp t (ask_at t k).node desk)
    by_desk None e f = cc
    by_desk (Some desk) e f =
        let found = draws_from stamp t desk no_modes 0 desk.queue k f in
        let at : k ≡ found.0 = omega (arith, found.1) in
        let this : (ask_at t k).node ≡ (slice_index_or desk.queue found.0 no_ask).node =
        ap (λ (o : Option Desk). (slice_index_or (queue_of_desk o) k no_ask).node) e ∙ ap (λ (n : ℕ). (slice_index_or desk.queue n no_ask).node) at in
        let drawn : IsDrawn stamp t desk no_modes desk.queue k (ask_at t k).node = subst (IsDrawn stamp t desk no_modes desk.queue k) (sym this) found.2 in
        by_how drawn.0 drawn.1
      where
        v : ℕ
        v = (ask_at t k).node

        left : Desk
        left = leaving stamp t desk

        none_due : due_potential (same_modes (bars (held_modes t.held)) (bars (held_modes t.held))) ≡ 0
        none_due = ap due_potential (same_itself (bars (held_modes t.held)))

        at_first : (queue : List Ask) → draw_from stamp.node t desk no_modes 0 queue ≡ Some k → (n : ℕ) → n ≡ (slice_index_or queue 0 no_ask).node
            → (n == stamp.node) ≡ false → (away n queue ≡ 0) × (away stamp.node queue ≡ 1)
        at_first [] g n same d = cc
        at_first (ask ∷ rest) g n same d = (
          ap (λ (b : Bool). if b then 0 else 1) (eq-eqb ask.node n (sym same)),
          ap (λ (b : Bool). if b then 0 else 1) (subst (λ (x : ℕ). (x == stamp.node) ≡ false) same d),
        )

        by_sure : (sure : Bool) → is_sure v left ≡ sure → (v == stamp.node) ≡ false
            → ((is_sure v left ≡ true) ⊎ (k ≡ 0)) → token_potential v left + 1 ≤ desk_potential stamp.node desk
        by_sure true g d how = omega (arith, ap (λ (b : Bool). if b then 0 else 1 + away v desk.queue) g)
        by_sure false g d (inl sure) = absurd (false≢true (sym g ∙ sure))
        by_sure false g d (inr first) =
            let place : v ≡ (slice_index_or desk.queue 0 no_ask).node =
            ap (λ (o : Option Desk). (slice_index_or (queue_of_desk o) k no_ask).node) e ∙ ap (λ (n : ℕ). (slice_index_or desk.queue n no_ask).node) first in
            let aways = at_first desk.queue f v place d in
            omega (arith, ap (λ (b : Bool). if b then 0 else 1 + away v desk.queue) g, aways.0, aways.1)

        by_how : (v == stamp.node) ≡ false → ((is_sure v left ≡ true) ⊎ (k ≡ 0)) → Adds stamp.node s 0 t (hand_over_to s stamp t (ask_at t k).node (Some desk))
        by_how d how =
            let one : sent_potential s (post_of s stamp (hand_over_to s stamp t v (Some desk)).state v (TokenBody left)).letter ≡ token_potential v left + 1 =
            own_post s stamp (hand_over_to s stamp t v (Some desk)).state v (TokenBody left) in
            omega (arith, none_due, one, by_sure (is_sure v left) refl d how, ap (here_potential stamp.node t.held t.charge) e)

-- what the desk deals with: all that it takes in counted for more before
pub dealt_queue : (items : List Parked) (desk : Desk)
    → queue_potential (fold dealt desk items).queue + (length items + length items) ≤ queue_potential desk.queue + sum_by parked_potential items
dealt_queue [] desk = omega arith
dealt_queue (item ∷ rest) desk =
    omega (arith, dealt_queue rest (dealt desk item), one item, sum_by-cons parked_potential item rest)
  where
    one : (i : Parked) → queue_potential (dealt desk i).queue + 2 ≤ queue_potential desk.queue + parked_potential i
    one (ParkedTell tell) = omega arith
    one (ParkedAsk ask) =
        let f : Ask → ℕ = λ a. 4 in
        let k = place desk.queue ask.holder in
        omega (
          arith,
          sum_by-append f (take_first k desk.queue) (ask ∷ drop_front k desk.queue),
          sum_by-cons f ask (drop_front k desk.queue),
          sum_by-append f (take_first k desk.queue) (drop_front k desk.queue),
          ap (sum_by f) (take-append-drop k desk.queue),
        )

reversed_potential : (v me : ℕ) (item : Parked) (t : SetState) → state_potential v (reversed me item t) ≡ state_potential v t
reversed_potential v me (ParkedTell tell) t = refl
reversed_potential v me (ParkedAsk ask) t = by_test (excludes_itself ask.mode && not (ask.node == me))
  where
    by_test : (other : Bool)
        → state_potential v (if other then record t { hoped = Some (record { node = ask.node; stamp = ask.stamp }) } else t) ≡ state_potential v t
    by_test true = refl
    by_test false = refl

item_said : (v : ℕ) (item : Parked) (mark : Bool) → sent_body v (body_of item mark) ≡ parked_potential item
item_said v (ParkedAsk ask) mark = refl
item_said v (ParkedTell tell) mark = refl

pub route_potential : (v s : ℕ) (stamp : Stamp) (marked : Bool) (item : Parked) (t : SetState) → Adds v s (parked_potential item) t (route s stamp marked item t)
route_potential v s stamp marked item t = route_ways (Adds v s (parked_potential item) t) s stamp marked item t at_desk (λ away_from w e. goes w)
  where
    at_desk : (desk : Desk) → t.desk ≡ Some desk → Adds v s (parked_potential item) t (silent (record t { desk = Some (dealt desk item) }))
    at_desk desk e =
        omega (
          arith,
          dealt_queue (item ∷ []) desk,
          ap (here_potential v t.held t.charge) e,
          sum_by-cons parked_potential item [],
          away_most v (dealt desk item).queue,
        )

    goes : (w : Way) → Adds v s (parked_potential item) t (sent_on s stamp item t w)
    goes Parks = omega (arith, sum_by_push parked_potential t.parked item)
    goes (Goes to mark) =
        omega (
          arith,
          reversed_potential v stamp.node item t,
          own_post s stamp t to (body_of item mark),
          item_said t.firm.node item mark,
        )

pub asks_potential : (v s : ℕ) (stamp : Stamp) (ask : Ask) (t : SetState) → Adds v s 6 t (asked s stamp ask t)
asks_potential v s stamp ask t =
    let routed = route_potential v s stamp false (ParkedAsk ask) (record t { pending = t.pending ++ ask ∷ [] }) in
    omega (arith, routed)

pub tells_potential : (v s : ℕ) (stamp : Stamp) (t : SetState) → t.desk ≡ None → same_modes (bars (held_modes t.held)) (bars t.charge) ≡ false
    → Adds v s 0 t (make_tell s stamp t)
tells_potential v s stamp t gone differs =
    let routed = route_potential v s stamp false (ParkedTell (tell_of stamp t)) (record t { charge = held_modes t.held }) in
    omega (
      arith,
      routed,
      ap (here_potential v t.held (held_modes t.held)) gone,
      ap due_potential (same_itself (bars (held_modes t.held))),
      ap (here_potential v t.held t.charge) gone,
      ap due_potential differs,
    )
