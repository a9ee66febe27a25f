use Rattle.std.proofs.Common.{◌∙◌, Bool, List, arith, sym, ap, slice_get}
use Rattle.std.proofs.lemmas.Option.{slice_get_past}
use Rattle.lt_inbox.specs.Mail.{takes_by}
use Rattle.lt_inbox.proofs.Summed.{takes_summed}
use Rattle.lt_inbox.proofs.pairs.Pairs.take_at.Goals as goal

pub returns-then-k-self : goal.returns-then-k-self
returns-then-k-self c =
    let boxes = c.self.inside.boxes.items in
    sym (slice_get_past (takes_by boxes) c.args.k (omega (arith, c.if-k-self.true, c.self.invariant.counted, takes_summed boxes)))
    ∙ ap (λ (bs : List (List Bool)). slice_get (takes_by bs) c.args.k) c.self.view_is
