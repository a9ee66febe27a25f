use Rattle.std.proofs.Common.{◌∙◌, ◌<◌, ◌^◌, length, arith, sym}
use Rattle.lt_inbox.proofs.Summed.{none_summed}
use Rattle.lt_inbox.proofs.pairs.Pairs.new.Goals as goal

pub invariant_of-result : goal.invariant_of-result
invariant_of-result c =
    let boxes = c.in_ok-boxes.boxes.items in
    let count = c.in_ok-boxes.ensures.receivers in
    let few : length boxes < 2 ^ 8 = omega (arith, count, c.ranges.nodes.fits) in
    none_summed boxes c.new.result few (λ q inside. c.in_ok-boxes.ensures.senders q (omega (arith, inside, count)) ∙ sym count) c.in_ok-boxes.ensures.empty
    (c.new.ensures.count ∙ sym count) c.new.ensures.empty
