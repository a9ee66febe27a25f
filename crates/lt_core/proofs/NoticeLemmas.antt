-- The nodes of a mask, one after the other; and what else steps of a move come to.
use Rattle.std.proofs.Common.{◌≡◌, ◌∙◌, ℕ, zero, suc, ◌+◌, ◌-◌, ◌<◌, ◌≤◌, Bool, true, false, List, [], ◌∷◌, ◌++◌, length, refl, sym, ap, subst, arith, append_assoc, append-nil, length-append, map, Option, Some, None, if◌then◌else◌, ◌==◌, ◌||◌, remove}
use Rattle.std.specs.Int.{bit_at}
use Rattle.std.proofs.lemmas.Nat.Bits.{bit_at-zero}
use Rattle.std.proofs.lemmas.List.Edits.{length-remove}
use Rattle.lt_modes.specs.Modes.{Modes, locks_in, bars, same_modes}
use Rattle.lt_modes.proofs.ModeAlgebra.{same_modes-true}
use Rattle.lt_modes.specs.State.{SetState, Desk, FreezeBody, Made, post_of, Parked, silent, then_do}
use Rattle.lt_modes.specs.declared.stamp.Stamp.{Stamp}
use Rattle.lt_modes.specs.declared.event.Event.TheVariants.{Freeze}
use Rattle.lt_modes.specs.Freezing.{freeze, freeze_with, cons_if}
use Rattle.lt_modes.specs.Serving.{queue_of, queue_of_desk, put_queue, served, owed_at, next_service, ask_at, serve, serve_one, serve_local, serve_copy, serve_up_to}
use Rattle.lt_modes.specs.HandingOver.{next_draw}
use Rattle.lt_modes.specs.declared.ask.Ask.{Ask}
use Rattle.lt_modes.specs.Fits.{Numbers}
use Rattle.lt_modes.specs.Sound.{SoundDesk}
use Rattle.lt_desk.specs.DeskData.{bits_from, OutData, FitsOut, out_after}
use Rattle.lt_desk.proofs.MaskLemmas.{same_itself}
use Rattle.lt_desk.proofs.SeenLemmas.{draw_kept}
use Rattle.lt_core.specs.CoreData.{CoreData, Does, HasRoom, waiting_here, epoch_of, freeze_number_of, MovesHaveRoom}
use Rattle.lt_core.specs.Bound.{notices, node_if}
use Rattle.lt_core.proofs.BoundLemmas.{asks_last, count_few}

-- what is sent to a node that is told or not, and then to the others
first_rest : (set : ℕ) (stamp : Stamp) (s : SetState) (frozen : Modes) (number : ℕ) (told : Bool) (x : ℕ) (rest : List ℕ) (out : OutData)
    → out_after (notices set stamp s frozen number rest) (out_after (notices set stamp s frozen number (cons_if told x [])) out)
    ≡ out_after (notices set stamp s frozen number (cons_if told x rest)) out
first_rest set stamp s frozen number true x rest out =
    rw (
      append_assoc out.posts (notices set stamp s frozen number (x ∷ [])).posts (notices set stamp s frozen number rest).posts,
      append_assoc out.events (notices set stamp s frozen number (x ∷ [])).events (notices set stamp s frozen number rest).events,
    ) refl
first_rest set stamp s frozen number false x rest out = rw (append-nil out.posts, append-nil out.events) refl

-- there is room for the first of these
fits_begin : (set : ℕ) (stamp : Stamp) (s : SetState) (frozen : Modes) (number : ℕ) (told : Bool) (x : ℕ) (rest : List ℕ) (out : OutData)
    → FitsOut (notices set stamp s frozen number (cons_if told x rest)) out → FitsOut (notices set stamp s frozen number (cons_if told x [])) out
fits_begin set stamp s frozen number told x rest out fits =
    let whole = first_rest set stamp s frozen number told x rest out in
    let first = notices set stamp s frozen number (cons_if told x []) in
    let others = notices set stamp s frozen number rest in
    record {
      posts = omega (arith, fits.posts, ap (λ (o : OutData). length o.posts) whole, length-append (out.posts ++ first.posts) others.posts);
      events = omega (arith, fits.events, ap (λ (o : OutData). length o.events) whole, length-append (out.events ++ first.events) others.events);
    }

pub fits_same : (a b : Made) (out had : OutData) → out_after a out ≡ out_after b had → FitsOut b had → FitsOut a out
fits_same a b out had same fits = record {
  posts = omega (arith, fits.posts, ap (λ (o : OutData). length o.posts) same, ap (λ (o : OutData). o.post_room) same);
  events = omega (arith, fits.events, ap (λ (o : OutData). length o.events) same, ap (λ (o : OutData). o.event_room) same);
}

-- the nodes from x on are x, where the mask has it, and those after it
nodes_from : (mask x n : ℕ) → x < n → bits_from (n - x) x mask ≡ cons_if (bit_at mask x == 1) x (bits_from (n - (x + 1)) (x + 1) mask)
nodes_from mask x n h =
    let one_more : n - x ≡ suc (n - (x + 1)) = omega (arith, h) in
    ap (λ m. bits_from m x mask) one_more

-- one step of the loop that tells the nodes of a mask
pub told_step : (set : ℕ) (stamp : Stamp) (s : SetState) (frozen : Modes) (number mask x n : ℕ) (out next had : OutData) → x < n
    → out_after (notices set stamp s frozen number (bits_from (n - x) x mask)) out ≡ out_after (notices set stamp s frozen number (bits_from n 0 mask)) had
    → next ≡ out_after (notices set stamp s frozen number (node_if mask x)) out
    → out_after (notices set stamp s frozen number (bits_from (n - (x + 1)) (x + 1) mask)) next ≡ out_after (notices set stamp s frozen number (bits_from n 0 mask)) had
told_step set stamp s frozen number mask x n out next had h left is =
    let rest = bits_from (n - (x + 1)) (x + 1) mask in
    ap (out_after (notices set stamp s frozen number rest)) is
    ∙ first_rest set stamp s frozen number (bit_at mask x == 1) x rest out
    ∙ ap (λ told. out_after (notices set stamp s frozen number told) out) (sym (nodes_from mask x n h)) ∙ left

pub told_fits : (set : ℕ) (stamp : Stamp) (s : SetState) (frozen : Modes) (number mask x n : ℕ) (out had : OutData) → x < n
    → out_after (notices set stamp s frozen number (bits_from (n - x) x mask)) out ≡ out_after (notices set stamp s frozen number (bits_from n 0 mask)) had
    → FitsOut (notices set stamp s frozen number (bits_from n 0 mask)) had → FitsOut (notices set stamp s frozen number (node_if mask x)) out
told_fits set stamp s frozen number mask x n out had h left fits =
    let rest = bits_from (n - (x + 1)) (x + 1) mask in
    fits_begin set stamp s frozen number (bit_at mask x == 1) x rest out
    (fits_same (notices set stamp s frozen number (cons_if (bit_at mask x == 1) x rest)) (notices set stamp s frozen number (bits_from n 0 mask)) out had
    (ap (λ told. out_after (notices set stamp s frozen number told) out) (sym (nodes_from mask x n h)) ∙ left) fits)

no_nodes : (n x : ℕ) → bits_from n x 0 ≡ []
no_nodes zero x = refl
no_nodes (suc n) x = ap (λ (b : ℕ). cons_if (b == 1) x (bits_from n (x + 1) 0)) (bit_at-zero x) ∙ no_nodes n (x + 1)

-- where the mask has no node, nothing is sent
pub told_none : (set : ℕ) (stamp : Stamp) (s : SetState) (frozen : Modes) (number mask n : ℕ) (out : OutData) → mask ≡ 0
    → out ≡ out_after (notices set stamp s frozen number (bits_from n 0 mask)) out
told_none set stamp s frozen number mask n out none =
    sym (ap (λ told. out_after (notices set stamp s frozen number told) out) (ap (bits_from n 0) none ∙ no_nodes n 0)
    ∙ rw (append-nil out.posts, append-nil out.events) refl)

-- ---- a freeze is what the desk's call and the notices make

pub freeze_fits : (set : ℕ) (stamp : Stamp) (s : SetState) (after : Option Desk) (d : Desk) (modes : Modes) (number : ℕ) (told nodes : List ℕ) (out : OutData)
    → freeze set stamp s ≡ freeze_with set stamp s d modes told number → nodes ≡ told → FitsOut (freeze set stamp s) out
    → FitsOut (notices set stamp (record s { frozen = modes; number = number; desk = after }) modes number nodes) out
freeze_fits set stamp s after d modes number told nodes out made same fits =
    let whole = subst (λ (m : Made). FitsOut m out) made fits in
    record {
      posts = subst (λ (list : List ℕ). length (out.posts ++ map (λ x. post_of set stamp s x (FreezeBody number modes)) list) ≤ out.post_room) (sym same) whole.posts;
      events = subst (λ (list : List ℕ). length (out.events ++ map (λ x. Freeze set x number modes) list) ≤ out.event_room) (sym same) whole.events;
    }

pub freeze_sent : (set : ℕ) (stamp : Stamp) (s : SetState) (after : Option Desk) (d : Desk) (modes : Modes) (number : ℕ) (told nodes : List ℕ) (had out : OutData)
    → freeze set stamp s ≡ freeze_with set stamp s d modes told number → nodes ≡ told
    → out ≡ out_after (notices set stamp (record s { frozen = modes; number = number; desk = after }) modes number nodes) had
    → out ≡ out_after (freeze set stamp s) had
freeze_sent set stamp s after d modes number told nodes had out made same sent =
    sent
    ∙ (λ i. record had {
      posts = had.posts ++ map (λ x. post_of set stamp s x (FreezeBody number modes)) (same i);
      events = had.events ++ map (λ x. Freeze set x number modes) (same i);
    })
    ∙ ap (λ (m : Made). out_after m had) (sym made)

-- a freeze leaves where the desk goes next
pub freeze_draws : (stamp : Stamp) (old new : CoreData) (had out : OutData) → Does (freeze old.set stamp old.state) old had new out
    → next_draw new.node new.state ≡ next_draw old.node old.state
freeze_draws stamp old new had out does =
    ap (λ me. next_draw me new.state) does.node ∙ (ap (next_draw old.node) does.state ∙ draw_kept old.node old.set stamp old.state)

-- The room that a step leaves.

epoch_put : (q : List Ask) (d : Option Desk) → epoch_of (put_queue q d) ≡ epoch_of d
epoch_put q None = refl
epoch_put q (Some d) = refl

number_put : (q : List Ask) (d : Option Desk) → freeze_number_of (put_queue q d) ≡ freeze_number_of d
number_put q None = refl
number_put q (Some d) = refl

epoch_owed : (ask : Ask) (k : ℕ) (d : Option Desk) → epoch_of (owed_at ask k d) ≡ epoch_of d
epoch_owed ask k None = refl
epoch_owed ask k (Some d) = refl

number_owed : (ask : Ask) (k : ℕ) (d : Option Desk) → freeze_number_of (owed_at ask k d) ≡ freeze_number_of d
number_owed ask k None = refl
number_owed ask k (Some d) = refl

-- the queue is one shorter once the ask at a place left it
pub queue_out : (d : Option Desk) (k : ℕ) → k < length (queue_of_desk d) → length (queue_of_desk (put_queue (remove (queue_of_desk d) k) d)) + 1 ≡ length (queue_of_desk d)
queue_out None k h = absurd (omega arith)
queue_out (Some d) k h = omega (arith, length-remove d.queue k h)

pub queue_owed : (ask : Ask) (d : Option Desk) (k : ℕ) → k < length (queue_of_desk d) → length (queue_of_desk (owed_at ask k d)) + 1 ≡ length (queue_of_desk d)
queue_owed ask None k h = absurd (omega arith)
queue_owed ask (Some d) k h = omega (arith, length-remove d.queue k h)

pub room_less : (k clock : ℕ) (core : CoreData) → HasRoom (k + 1) clock core → HasRoom k clock core
room_less k clock core r = record {
  rows = omega (arith, r.rows);
  parked = omega (arith, r.parked);
  locks = omega (arith, r.locks);
  epoch = r.epoch;
  number = r.number;
  tells = r.tells;
}

-- an ask or a tell more is parked
pub room_parked : (old new : CoreData) (item : Parked) (k clock : ℕ) → new.state ≡ record old.state { parked = old.state.parked ++ item ∷ [] }
    → new.room ≡ old.room → old.parked_room ≤ new.parked_room + 1 → old.tell_room ≤ new.tell_room → HasRoom (k + 1) clock old → HasRoom k clock new
room_parked old new item k clock e room parked tells r = record {
  rows = omega (arith, ap waiting_here e, asks_last old.state.parked item, count_few item, room, r.rows);
  parked = omega (arith, parked, r.parked);
  locks = omega (arith, ap (λ (s : SetState). locks_in s.held) e, ap waiting_here e, asks_last old.state.parked item, count_few item, r.locks);
  epoch = omega (arith, ap (λ (s : SetState). epoch_of s.desk) e, r.epoch);
  number = omega (arith, ap (λ (s : SetState). freeze_number_of s.desk) e, r.number);
  tells = omega (arith, tells, r.tells);
}

-- a local service
pub room_local : (old new : CoreData) (k clock : ℕ) → k < length (queue_of old.state) → new.state ≡ served old.state k → old.room ≤ new.room + 1
    → locks_in new.state.held ≤ locks_in old.state.held + 1 → old.tell_room ≤ new.tell_room → HasRoom 0 clock old → HasRoom 0 clock new
room_local old new k clock h e room locks tells r = record {
  rows = omega (arith, ap waiting_here e, queue_out old.state.desk k h, room, r.rows);
  parked = omega arith;
  locks = omega (arith, locks, ap waiting_here e, queue_out old.state.desk k h, r.locks);
  epoch = omega (arith, ap (λ (s : SetState). epoch_of s.desk) e, epoch_put (remove (queue_of old.state) k) old.state.desk, r.epoch);
  number = omega (arith, ap (λ (s : SetState). freeze_number_of s.desk) e, number_put (remove (queue_of old.state) k) old.state.desk, r.number);
  tells = omega (arith, tells, r.tells);
}

-- a copy is sent
pub room_copy : (old new : CoreData) (ask : Ask) (k clock : ℕ) → k < length (queue_of old.state) → new.state ≡ record old.state { desk = owed_at ask k old.state.desk }
    → old.room ≤ new.room + 1 → old.tell_room ≤ new.tell_room → HasRoom 0 clock old → HasRoom 0 clock new
room_copy old new ask k clock h e room tells r = record {
  rows = omega (arith, ap waiting_here e, queue_owed ask old.state.desk k h, room, r.rows);
  parked = omega arith;
  locks = omega (arith, ap (λ (s : SetState). locks_in s.held) e, ap waiting_here e, queue_owed ask old.state.desk k h, r.locks);
  epoch = omega (arith, ap (λ (s : SetState). epoch_of s.desk) e, epoch_owed ask k old.state.desk, r.epoch);
  number = omega (arith, ap (λ (s : SetState). freeze_number_of s.desk) e, number_owed ask k old.state.desk, r.number);
  tells = omega (arith, tells, r.tells);
}

-- One service and then the rest is all services.

length_by : (set : ℕ) (stamp : Stamp) (k : ℕ) (s : SetState) (b : Bool) → k < length (queue_of s)
    → length (queue_of (if b then serve_local set k s else serve_copy set stamp k (ask_at s k) s).state) + 1 ≡ length (queue_of s)
length_by set stamp k s true h = queue_out s.desk k h
length_by set stamp k s false h = queue_owed (ask_at s k) s.desk k h

pub length_served : (set : ℕ) (stamp : Stamp) (k : ℕ) (s : SetState) → k < length (queue_of s) → length (queue_of s) ≡ suc (length (queue_of (serve_one set stamp k s).state))
length_served set stamp k s h = omega (arith, length_by set stamp k s ((ask_at s k).node == stamp.node) h)

pub serve_more : (set : ℕ) (stamp : Stamp) (s : SetState) (k : ℕ) → next_service stamp.node s ≡ Some k → k < length (queue_of s)
    → serve set stamp s ≡ then_do (serve_one set stamp k s) (serve set stamp)
serve_more set stamp s k e h =
    subst (λ (n : ℕ). serve_up_to n set stamp s ≡ then_do (serve_one set stamp k s) (serve set stamp)) (sym (length_served set stamp k s h))
    (rw e refl)

none_up_to : (n set : ℕ) (stamp : Stamp) (s : SetState) → next_service stamp.node s ≡ None → serve_up_to n set stamp s ≡ silent s
none_up_to zero set stamp s e = refl
none_up_to (suc n) set stamp s e = rw e refl

pub serve_none : (set : ℕ) (stamp : Stamp) (s : SetState) → next_service stamp.node s ≡ None → serve set stamp s ≡ silent s
serve_none set stamp s e = none_up_to (length (queue_of s)) set stamp s e

-- a rule that makes nothing sends nothing
pub out_silent : (s : SetState) (out : OutData) → out_after (silent s) out ≡ out
out_silent s out = rw (append-nil out.posts, append-nil out.events) refl

-- two rules one after the other, on what was sent
pub out_then : (a b : Made) (out : OutData) → out_after b (out_after a out) ≡ out_after (record { state = b.state; posts = a.posts ++ b.posts; events = a.events ++ b.events }) out
out_then a b out = rw (append_assoc out.posts a.posts b.posts, append_assoc out.events a.events b.events) refl

-- there is room for the first rule, and then for the second
pub fits_first : (a b : Made) (out : OutData) → FitsOut (record { state = b.state; posts = a.posts ++ b.posts; events = a.events ++ b.events }) out → FitsOut a out
fits_first a b out f = record {
  posts = omega (arith, f.posts, length-append out.posts a.posts, length-append a.posts b.posts, length-append out.posts (a.posts ++ b.posts));
  events = omega (arith, f.events, length-append out.events a.events, length-append a.events b.events, length-append out.events (a.events ++ b.events));
}

pub fits_second : (a b : Made) (out : OutData) → FitsOut (record { state = b.state; posts = a.posts ++ b.posts; events = a.events ++ b.events }) out → FitsOut b (out_after a out)
fits_second a b out f = record {
  posts = omega (arith, f.posts, ap length (append_assoc out.posts a.posts b.posts));
  events = omega (arith, f.events, ap length (append_assoc out.events a.events b.events));
}

-- a rule and then another: both are done
pub does_then : (a : Made) (rule : ℕ → SetState → Made) (old mid new : CoreData) (had sent out : OutData)
    → Does a old had mid sent → Does (rule mid.set mid.state) mid sent new out → Does (then_do a (rule old.set)) old had new out
does_then a rule old mid new had sent out first second = record {
  node = second.node ∙ first.node;
  set = second.set ∙ first.set;
  state = second.state ∙ ap (λ (s : SetState). (rule mid.set s).state) first.state ∙ ap (λ set. (rule set a.state).state) first.set;
  sent = second.sent ∙ ap (λ (s : SetState). out_after (rule mid.set s) sent) first.state ∙ ap (λ set. out_after (rule set a.state) sent) first.set
      ∙ ap (out_after (rule old.set a.state)) first.sent ∙ out_then a (rule old.set a.state) had;
}

-- after a first step, what is left to do gives what the whole gives
pub rest_kept : (a whole : Made) (rule : ℕ → SetState → Made) (old mid : CoreData) (had sent : OutData)
    → Does a old had mid sent → whole ≡ then_do a (rule old.set)
    → ((rule mid.set mid.state).state ≡ whole.state) × (out_after (rule mid.set mid.state) sent ≡ out_after whole had)
rest_kept a whole rule old mid had sent first is = (
  ap (λ (s : SetState). (rule mid.set s).state) first.state ∙ ap (λ set. (rule set a.state).state) first.set ∙ sym (ap (λ (m : Made). m.state) is),
  ap (λ (s : SetState). out_after (rule mid.set s) sent) first.state ∙ ap (λ set. out_after (rule set a.state) sent) first.set
      ∙ ap (out_after (rule old.set a.state)) first.sent ∙ out_then a (rule old.set a.state) had ∙ sym (ap (λ m. out_after m had) is),
)

-- there is room for the second rule once the first is done
pub fits_after : (a : Made) (rule : ℕ → SetState → Made) (old mid : CoreData) (had sent : OutData)
    → Does a old had mid sent → FitsOut (then_do a (rule old.set)) had → FitsOut (rule mid.set mid.state) sent
fits_after a rule old mid had sent first f =
    rw (first.sent, first.state, first.set) (fits_second a (rule old.set a.state) had f)

-- What the soundness of a set gives of the premises of a move.

-- epoch and freeze number of a sound desk are no later than the clock
desk_early : (numbers : Numbers) (clock : ℕ) (s : SetState) (d : Option Desk) → SoundDesk numbers false false clock s d
    → (epoch_of d ≤ clock) × (freeze_number_of d ≤ clock)
desk_early numbers clock s None h = (omega arith, omega arith)
desk_early numbers clock s (Some desk) h = (h.1, h.2)

pub moves_have_room : MovesHaveRoom
moves_have_room numbers q clock now core sound later locks memory =
    let early = desk_early numbers clock core.state core.state.desk sound.desk in
    record {
      rows = omega (arith, memory.asks);
      parked = memory.parked;
      locks = locks;
      epoch = omega (arith, early.0, later);
      number = omega (arith, early.1, later);
      tells = memory.tells;
    }

-- Where two sets of modes are the same, they bar the same.

or_implied : (t u : Bool) → (t ≡ true → u ≡ true) → (t || u) ≡ u
or_implied true u h = sym (h refl)
or_implied false u h = refl

pub bars_or_same : (a b : Modes) → (same_modes a b || same_modes (bars a) (bars b)) ≡ same_modes (bars a) (bars b)
bars_or_same a b = or_implied (same_modes a b) (same_modes (bars a) (bars b))
    (λ e. ap (λ (m : Modes). same_modes (bars a) (bars m)) (sym (same_modes-true a b e)) ∙ same_itself (bars a))
