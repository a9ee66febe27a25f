use Rattle.std.proofs.Common.{◌≡◌, ◌<◌, ◌∙◌, ◌-◌, ℕ, [], Bool, true, false, List, length, arith, sym, ap, ap₂, subst, slice_set, nat_lt}
use Rattle.std.proofs.lemmas.List.{get_or_default}
use Rattle.lt_inbox.specs.Mail.{AreSummed, has_from, has_between, senders_to, sender_count, put_mark}
use Rattle.lt_inbox.proofs.Summed.{some_counted, summed_less}
use Rattle.lt_inbox.proofs.pairs.Pairs.clear.Goals as goal

pub overflow_sub-self : goal.overflow_sub-self
overflow_sub-self c =
    let boxes = c.self.inside.boxes.items in
    let p = c.args.sender in
    let q = c.args.receiver in
    let box = c.index_mut-senders.result.now in
    let sender : p < length boxes = omega (arith, c.requires.0, ap length c.self.view_is) in
    let receiver : q < length boxes = omega (arith, c.requires.1, ap length c.self.view_is) in
    let place : c.from.result < length boxes = omega (arith, receiver, c.from.ensures) in
    let here : senders_to boxes q ≡ box =
    ap (senders_to boxes) (sym c.from.ensures) ∙ (get_or_default boxes c.from.result [] box place ∙ sym c.index_mut-senders.ensures.value) in
    let some : has_between boxes p q ≡ true = ap (λ (b : List Bool). has_from b p) here ∙ (sym c.remove.ensures.removed ∙ c.if-remove.true) in
    some_counted boxes c.self.inside.receivers c.self.inside.count p q c.self.invariant sender receiver some

pub invariant_of-self : goal.invariant_of-self
invariant_of-self c =
    let boxes = c.self.inside.boxes.items in
    let p = c.args.sender in
    let q = c.args.receiver in
    let box = c.index_mut-senders.result.now in
    let sender : p < length boxes = omega (arith, c.requires.0, ap length c.self.view_is) in
    let receiver : q < length boxes = omega (arith, c.requires.1, ap length c.self.view_is) in
    let place : c.from.result < length boxes = omega (arith, receiver, c.from.ensures) in
    let here : senders_to boxes q ≡ box =
    ap (senders_to boxes) (sym c.from.ensures) ∙ (get_or_default boxes c.from.result [] box place ∙ sym c.index_mut-senders.ensures.value) in
    let some : has_between boxes p q ≡ true = ap (λ (b : List Bool). has_from b p) here ∙ (sym c.remove.ensures.removed ∙ c.if-remove.true) in
    let own : c.remove.new.self ≡ slice_set (senders_to boxes q) p false = c.remove.ensures.set ∙ ap (λ (b : List Bool). slice_set b p false) (sym here) in
    let left : c.len-more.result ≡ sender_count (slice_set (senders_to boxes q) p false) = c.len-more.ensures ∙ ap sender_count own in
    let receivers : c.set.new.self ≡ slice_set c.self.inside.receivers q (nat_lt 0 (sender_count (slice_set (senders_to boxes q) p false))) =
    c.set.ensures ∙ ap (λ (n : ℕ). slice_set c.self.inside.receivers q (nat_lt 0 n)) left in
    subst (λ (bs : List (List Bool)). AreSummed bs c.set.new.self (c.self.inside.count - 1)) (sym (ap₂ (slice_set boxes) c.from.ensures own))
    (subst (λ (rs : List Bool). AreSummed (put_mark boxes p q false) rs (c.self.inside.count - 1)) (sym receivers)
    (summed_less boxes c.self.inside.receivers c.self.inside.count p q c.self.invariant sender receiver some))
