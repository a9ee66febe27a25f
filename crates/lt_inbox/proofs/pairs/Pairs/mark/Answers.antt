use Rattle.std.proofs.Common.{◌≡◌, ◌<◌, ◌∙◌, ◌+◌, [], Bool, true, false, List, length, arith, sym, ap, ap₂, subst, slice_set}
use Rattle.std.proofs.lemmas.Bool.{not-true}
use Rattle.std.proofs.lemmas.List.{get_or_default}
use Rattle.lt_inbox.specs.Mail.{AreSummed, has_from, has_between, senders_to, put_mark}
use Rattle.lt_inbox.proofs.Summed.{few_pairs, summed_more}
use Rattle.lt_inbox.proofs.pairs.Pairs.mark.Goals as goal

pub overflow_add-self : goal.overflow_add-self
overflow_add-self c = omega (arith, c.self.invariant.counted, few_pairs c.self.inside.boxes.items c.self.invariant.square)

pub invariant_of-self : goal.invariant_of-self
invariant_of-self c =
    let boxes = c.self.inside.boxes.items in
    let p = c.args.sender in
    let q = c.args.receiver in
    let box = c.index_mut.result.now in
    let sender : p < length boxes = omega (arith, c.requires.0, ap length c.self.view_is) in
    let receiver : q < length boxes = omega (arith, c.requires.1, ap length c.self.view_is) in
    let place : c.from.result < length boxes = omega (arith, receiver, c.from.ensures) in
    let here : senders_to boxes q ≡ box =
    ap (senders_to boxes) (sym c.from.ensures) ∙ (get_or_default boxes c.from.result [] box place ∙ sym c.index_mut.ensures.value) in
    let none : has_between boxes p q ≡ false =
    ap (λ (b : List Bool). has_from b p) here ∙ not-true (has_from box p) (sym c.insert.ensures.added ∙ c.if-insert.true) in
    let own : c.insert.new.self ≡ slice_set (senders_to boxes q) p true = c.insert.ensures.set ∙ ap (λ (b : List Bool). slice_set b p true) (sym here) in
    subst (λ (bs : List (List Bool)). AreSummed bs c.insert-then-insert.new.self (c.self.inside.count + 1)) (sym (ap₂ (slice_set boxes) c.from.ensures own))
    (subst (λ (rs : List Bool). AreSummed (put_mark boxes p q true) rs (c.self.inside.count + 1)) (sym c.insert-then-insert.ensures.set)
    (summed_more boxes c.self.inside.receivers c.self.inside.count p q c.self.invariant sender receiver none))
