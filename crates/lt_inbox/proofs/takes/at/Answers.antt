use Rattle.std.proofs.Common.{◌≡◌, ◌<◌, ◌≤◌, ◌∙◌, ◌+◌, ◌-◌, ℕ, [], Bool, List, length, arith, sym, ap, slice_get}
use Rattle.std.proofs.lemmas.List.{get_or_default}
use Rattle.lt_spec.specs.FixedOrder.{Turn}
use Rattle.lt_inbox.specs.Mail.{senders_to, sender_count, takes_of, takes_from}
use Rattle.lt_inbox.proofs.TakeOrder.{take_here, take_later}
use Rattle.lt_inbox.proofs.Summed.{takes_at_first, no_takes_left}
use Rattle.lt_inbox.proofs.takes.at.Goals as goal

pub returns-then-left-count : goal.returns-then-left-count
returns-then-left-count c =
    let boxes = c.args.boxes.now in
    let q = c.in-Some.receiver in
    let first = c.in-Some.ensures.some in
    let inside : q < length boxes = omega (arith, first.within, c.requires.receivers.count) in
    let own : c.index-boxes-from.result ≡ senders_to boxes q =
    c.index-boxes-from.is
    ∙ (get_or_default boxes c.from.result c.index-boxes-from.result [] (omega (arith, inside, c.from.ensures))
    ∙ ap (senders_to boxes) c.from.ensures) in
    let less : c.loop-receiver.left < sender_count (senders_to boxes q) =
    omega (arith, c.if-left-count.true, c.from-count.ensures, c.len.ensures, ap sender_count own) in
    c.take_from.ensures
    ∙ (ap (λ (senders : List Bool). slice_get (takes_of q senders) c.loop-receiver.left) own
    ∙ (sym (take_here boxes q c.loop-receiver.left inside less)
    ∙ (sym (ap (λ (ts : List Turn). slice_get ts c.loop-receiver.left) (takes_at_first boxes c.args.receivers.now c.loop-receiver.from q c.requires.receivers first))
    ∙ c.loop-receiver.invariant.rest)))

pub loop-receiver-preserved : goal.loop-receiver-preserved
loop-receiver-preserved c =
    let boxes = c.args.boxes.now in
    let q = c.in-Some.receiver in
    let first = c.in-Some.ensures.some in
    let inside : q < length boxes = omega (arith, first.within, c.requires.receivers.count) in
    let own : c.index-boxes-from.result ≡ senders_to boxes q =
    c.index-boxes-from.is
    ∙ (get_or_default boxes c.from.result c.index-boxes-from.result [] (omega (arith, inside, c.from.ensures))
    ∙ ap (senders_to boxes) c.from.ensures) in
    let count : sender_count (senders_to boxes q) ≡ c.from-count.result = sym (ap sender_count own) ∙ (sym c.len.ensures ∙ sym c.from-count.ensures) in
    let more : sender_count (senders_to boxes q) ≤ c.loop-receiver.left = omega (arith, c.if-left-count.false, count) in
    record {
      inside = omega (arith, inside);
      rest =
          sym (take_later boxes q c.loop-receiver.left inside more
          ∙ ap (λ (n : ℕ). slice_get (takes_from boxes (q + 1) (length boxes - (q + 1))) (c.loop-receiver.left - n)) count)
          ∙ (sym (ap (λ (ts : List Turn). slice_get ts c.loop-receiver.left) (takes_at_first boxes c.args.receivers.now c.loop-receiver.from q c.requires.receivers first))
          ∙ c.loop-receiver.invariant.rest);
    }

pub returns : goal.returns
returns c =
    sym (ap (λ (ts : List Turn). slice_get ts c.loop-receiver.left)
    (no_takes_left c.args.boxes.now c.args.receivers.now c.loop-receiver.from c.requires.receivers c.loop-receiver.invariant.inside c.in_default.ensures.none))
    ∙ c.loop-receiver.invariant.rest
