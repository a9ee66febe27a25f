use Rattle.std.proofs.Common.{◌≡◌, ◌<◌, ◌∙◌, length, Some, None, ap, arith, refl, subst, sym}
use Rattle.lt_modes.specs.State.{Made, SetState}
use Rattle.lt_modes.specs.Serving.{queue_of, next_service, serve, serve_one}
use Rattle.lt_desk.specs.DeskData.{FitsOut, out_after}
use Rattle.lt_desk.specs.Picks.{service_of}
use Rattle.lt_desk.proofs.SeenLemmas.{draw_is, service_is, service_in_queue}
use Rattle.lt_core.proofs.NoticeLemmas.{fits_first, fits_same, length_served, serve_more, serve_none, out_silent, rest_kept}
use Rattle.lt_core.proofs.one_set.Core.serve.Goals as goal

pub serve_one-requires-clause-within : goal.serve_one-requires-clause-within
serve_one-requires-clause-within c =
    service_in_queue c.loop-k.next (length (queue_of c.loop-k.self.state)) c.in-Some.k c.loop-k.invariant.within (sym c.service.ensures ∙ c.in-Some.is)

pub loop-k-preserved : goal.loop-k-preserved
loop-k-preserved c =
    let before = c.loop-k.self in
    let stamp = c.args.stamp in
    let k = c.in-Some.k in
    let served : service_of c.loop-k.next ≡ Some k = sym c.service.ensures ∙ c.in-Some.is in
    let found : next_service stamp.node before.state ≡ Some k =
    ap (λ me. next_service me before.state) (c.requires.node ∙ sym c.loop-k.invariant.node)
    ∙ (sym (service_is before.node before.state c.loop-k.next c.loop-k.invariant.next) ∙ served) in
    let rest = rest_kept (serve_one before.set stamp k before.state) (serve before.set stamp before.state) (λ set. serve set stamp) before c.serve_one.new.self c.loop-k.out c.serve_one.new.out c.serve_one.ensures.does
    (serve_more before.set stamp before.state k found (service_in_queue c.loop-k.next (length (queue_of before.state)) k c.loop-k.invariant.within served)) in
    record {
      node = c.serve_one.ensures.does.node ∙ c.loop-k.invariant.node;
      set = c.serve_one.ensures.does.set ∙ c.loop-k.invariant.set;
      state = rest.0 ∙ c.loop-k.invariant.state;
      sent = rest.1 ∙ c.loop-k.invariant.sent;
      room = c.serve_one.ensures.room;
      next = c.pick-next-in-Some.ensures.next;
      within = c.pick-next-in-Some.ensures.within;
    }

pub returns-clause-does : goal.returns-clause-does
returns-clause-does c =
    let after = c.loop-k.self in
    let stamp = c.args.stamp in
    let none : service_of c.loop-k.next ≡ None = sym c.service.ensures ∙ c.in_default.is in
    let idle : next_service stamp.node after.state ≡ None =
    ap (λ me. next_service me after.state) (c.requires.node ∙ sym c.loop-k.invariant.node)
    ∙ (sym (service_is after.node after.state c.loop-k.next c.loop-k.invariant.next) ∙ none) in
    let quiet = serve_none after.set stamp after.state idle in
    record {
      node = c.loop-k.invariant.node;
      set = c.loop-k.invariant.set;
      state = sym (ap (λ (m : Made). m.state) quiet) ∙ c.loop-k.invariant.state;
      sent = sym (ap (λ (m : Made). out_after m c.loop-k.out) quiet ∙ out_silent after.state c.loop-k.out) ∙ c.loop-k.invariant.sent;
    }

pub loop-k-init : goal.loop-k-init
loop-k-init c = record {
  node = refl;
  set = refl;
  state = refl;
  sent = refl;
  room = c.requires.room;
  next = c.pick-next.ensures.next;
  within = c.pick-next.ensures.within;
}

pub loop-k-smaller : goal.loop-k-smaller
loop-k-smaller c =
    let before = c.loop-k.self in
    let within = service_in_queue c.loop-k.next (length (queue_of before.state)) c.in-Some.k c.loop-k.invariant.within (sym c.service.ensures ∙ c.in-Some.is) in
    let smaller : length (queue_of c.serve_one.new.self.state) < length (queue_of before.state) =
    omega (arith, length_served before.set c.args.stamp c.in-Some.k before.state within, ap (λ (s : SetState). length (queue_of s)) c.serve_one.ensures.does.state) in
    smaller

pub serve_one-requires-clause-node : goal.serve_one-requires-clause-node
serve_one-requires-clause-node c = c.requires.node ∙ sym c.loop-k.invariant.node

pub serve_one-requires-clause-room : goal.serve_one-requires-clause-room
serve_one-requires-clause-room c = c.loop-k.invariant.room

pub serve_one-requires-clause-fits : goal.serve_one-requires-clause-fits
serve_one-requires-clause-fits c =
    let before = c.loop-k.self in
    let start = c.args.self.now in
    let stamp = c.args.stamp in
    let k = c.in-Some.k in
    let served : service_of c.loop-k.next ≡ Some k = sym c.service.ensures ∙ c.in-Some.is in
    let found : next_service stamp.node before.state ≡ Some k =
    ap (λ me. next_service me before.state) (c.requires.node ∙ sym c.loop-k.invariant.node)
    ∙ (sym (service_is before.node before.state c.loop-k.next c.loop-k.invariant.next) ∙ served) in
    let more = serve_more before.set stamp before.state k found (service_in_queue c.loop-k.next (length (queue_of before.state)) k c.loop-k.invariant.within served) in
    let first = serve_one before.set stamp k before.state in
    fits_first first (serve before.set stamp first.state) c.loop-k.out
    (subst (λ (made : Made). FitsOut made c.loop-k.out) more
    (fits_same (serve before.set stamp before.state) (serve start.set stamp start.state) c.loop-k.out c.args.out.now c.loop-k.invariant.sent c.requires.fits))

pub returns-clause-room : goal.returns-clause-room
returns-clause-room c = c.loop-k.invariant.room

pub returns-clause-draw : goal.returns-clause-draw
returns-clause-draw c =
    c.draw.ensures ∙ draw_is c.loop-k.self.node c.loop-k.self.state c.loop-k.next c.loop-k.invariant.next (sym c.service.ensures ∙ c.in_default.is)
