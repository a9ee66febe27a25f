use Rattle.std.proofs.Common.{◌∙◌, Bool, List, arith, sym, ap, length}
use Rattle.lt_inbox.specs.Mail.{takes_by}
use Rattle.lt_inbox.proofs.Summed.{takes_summed, few_pairs}
use Rattle.lt_inbox.proofs.pairs.Pairs.count_takes.Goals as goal

pub returns-clause-count : goal.returns-clause-count
returns-clause-count c =
    c.self.invariant.counted
    ∙ (sym (takes_summed c.self.inside.boxes.items)
    ∙ ap (λ (boxes : List (List Bool)). length (takes_by boxes)) c.self.view_is)

pub returns-clause-few : goal.returns-clause-few
returns-clause-few c = omega (arith, c.self.invariant.counted, few_pairs c.self.inside.boxes.items c.self.invariant.square)
