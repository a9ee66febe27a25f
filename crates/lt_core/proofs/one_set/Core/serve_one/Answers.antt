use Rattle.std.proofs.Common.{◌≡◌, ◌≢◌, ◌∙◌, ℕ, [], ◌∷◌, Bool, ap, arith, eq-eqb, if◌then◌else◌, length-append, ne_eqb, remove, subst, sym}
use Rattle.lt_modes.specs.State.{Made, SetState}
use Rattle.lt_modes.specs.Modes.{locks_in}
use Rattle.lt_modes.specs.Serving.{end_event, ask_at, put_queue, queue_of, serve_copy, serve_local, serve_one}
use Rattle.lt_modes.specs.declared.ask.Ask.{Ask}
use Rattle.lt_modes.specs.declared.stamp.Stamp.{Stamp}
use Rattle.lt_desk.specs.DeskData.{FitsOut, OutData}
use Rattle.lt_core.specs.CoreData.{CoreData, Does}
use Rattle.lt_core.specs.Steps.{answer_ask}
use Rattle.lt_core.proofs.NoticeLemmas.{room_copy, room_local}
use Rattle.lt_core.proofs.one_set.Core.serve_one.Goals as goal

abbrev by_place : ℕ → Stamp → ℕ → SetState → Bool → Made
by_place set stamp k s is_here = if is_here then serve_local set k s else serve_copy set stamp k (ask_at s k) s

-- the ask is of this node
here_is : (set : ℕ) (stamp : Stamp) (k : ℕ) (s : SetState) (ask : Ask) → ask ≡ ask_at s k → ask.node ≡ stamp.node → serve_one set stamp k s ≡ serve_local set k s
here_is set stamp k s ask is same = ap (by_place set stamp k s) (eq-eqb (ask_at s k).node stamp.node (sym (ap (λ (a : Ask). a.node) is) ∙ same))

-- it is of another one
there_is : (set : ℕ) (stamp : Stamp) (k : ℕ) (s : SetState) (ask : Ask) → ask ≡ ask_at s k → ask.node ≢ stamp.node → serve_one set stamp k s ≡ serve_copy set stamp k (ask_at s k) s
there_is set stamp k s ask is other = ap (by_place set stamp k s) (ne_eqb (ask_at s k).node stamp.node (λ same. other (ap (λ (a : Ask). a.node) is ∙ same)))

-- the core without the ask in its queue
abbrev taken_out : CoreData → ℕ → CoreData
taken_out core k = record core { state = record core.state { desk = put_queue (remove (queue_of core.state) k) core.state.desk } }

answered_is : (old mid new : CoreData) (k : ℕ) (ask : Ask) (had out : OutData) → mid ≡ taken_out old k → ask ≡ ask_at old.state k → Does (answer_ask mid.set ask mid.state) mid had new out
    → Does (serve_local old.set k old.state) old had new out
answered_is old mid new k ask had out left is does =
    let here = subst (λ (core : CoreData). Does (answer_ask core.set (ask_at old.state k) core.state) core had new out) left
    (subst (λ (a : Ask). Does (answer_ask mid.set a mid.state) mid had new out) is does) in
    record { node = here.node; set = here.set; state = here.state; sent = here.sent }

pub queued-requires : goal.queued-requires
queued-requires c = c.requires.within

pub take_out-ask-requires : goal.take_out-ask-requires
take_out-ask-requires c = c.requires.within

pub answer-requires-clause-fits : goal.answer-requires-clause-fits
answer-requires-clause-fits c =
    let core = c.args.self.now in
    let out = c.args.out.now in
    let mid = c.take_out-ask.new.self in
    let fits = subst (λ (made : Made). FitsOut made out) (here_is core.set c.args.stamp c.args.k core.state c.queued.result c.queued.ensures c.if-queued-stamp.true) c.requires.fits in
    record {
      posts = fits.posts;
      events = omega (arith, fits.events, length-append out.events (end_event core.set core.state (ask_at core.state c.args.k) ∷ []), length-append out.events (end_event mid.set mid.state c.take_out-ask.result ∷ []));
    }

pub answer-requires-clause-room : goal.answer-requires-clause-room
answer-requires-clause-room c = omega (arith, c.requires.room.rows, c.requires.within, ap (λ (core : CoreData). core.room) c.take_out-ask.ensures.core)

pub answer-requires-clause-locks : goal.answer-requires-clause-locks
answer-requires-clause-locks c = omega (arith, c.requires.room.locks, c.requires.within, ap (λ (core : CoreData). locks_in core.state.held) c.take_out-ask.ensures.core)

pub send_copy-requires-clause-within : goal.send_copy-requires-clause-within
send_copy-requires-clause-within c = c.requires.within

pub send_copy-requires-clause-room : goal.send_copy-requires-clause-room
send_copy-requires-clause-room c = omega (arith, c.requires.room.rows, c.requires.within)

pub send_copy-requires-clause-fits : goal.send_copy-requires-clause-fits
send_copy-requires-clause-fits c =
    let core = c.args.self.now in
    subst (λ (made : Made). FitsOut made c.args.out.now) (there_is core.set c.args.stamp c.args.k core.state c.queued.result c.queued.ensures c.if-queued-stamp.false) c.requires.fits

pub returns-then-queued-stamp-clause-does : goal.returns-then-queued-stamp-clause-does
returns-then-queued-stamp-clause-does c =
    let core = c.args.self.now in
    subst (λ (made : Made). Does made core c.args.out.now c.answer.new.self c.answer.new.out) (sym (here_is core.set c.args.stamp c.args.k core.state c.queued.result c.queued.ensures c.if-queued-stamp.true))
    (answered_is core c.take_out-ask.new.self c.answer.new.self c.args.k c.take_out-ask.result c.args.out.now c.answer.new.out c.take_out-ask.ensures.core c.take_out-ask.ensures.ask c.answer.ensures.does)

pub returns-then-queued-stamp-clause-room : goal.returns-then-queued-stamp-clause-room
returns-then-queued-stamp-clause-room c =
    let core = c.args.self.now in
    let mid = c.take_out-ask.new.self in
    let does = answered_is core mid c.answer.new.self c.args.k c.take_out-ask.result c.args.out.now c.answer.new.out c.take_out-ask.ensures.core c.take_out-ask.ensures.ask c.answer.ensures.does in
    let left = c.take_out-ask.ensures.core in
    room_local core c.answer.new.self c.args.k c.args.stamp.clock c.requires.within does.state
    (omega (arith, c.answer.ensures.room.0, ap (λ (x : CoreData). x.room) left))
    (omega (arith, c.answer.ensures.locks, ap (λ (x : CoreData). locks_in x.state.held) left))
    (omega (arith, c.answer.ensures.tells, ap (λ (x : CoreData). x.tell_room) left)) c.requires.room

pub returns-else-queued-stamp-clause-does : goal.returns-else-queued-stamp-clause-does
returns-else-queued-stamp-clause-does c =
    let core = c.args.self.now in
    subst (λ (made : Made). Does made core c.args.out.now c.send_copy.new.self c.send_copy.new.out)
    (sym (there_is core.set c.args.stamp c.args.k core.state c.queued.result c.queued.ensures c.if-queued-stamp.false)) c.send_copy.ensures.does

pub returns-else-queued-stamp-clause-room : goal.returns-else-queued-stamp-clause-room
returns-else-queued-stamp-clause-room c =
    let core = c.args.self.now in
    room_copy core c.send_copy.new.self (ask_at core.state c.args.k) c.args.k c.args.stamp.clock c.requires.within c.send_copy.ensures.does.state c.send_copy.ensures.room.0
    (omega (arith, c.send_copy.ensures.tells)) c.requires.room
