use Rattle.std.proofs.Common.{◌∙◌, ap, sym, Option}
use Rattle.lt_spec.specs.Holdings.{Holding}
use Rattle.lt_waits.specs.Reasons.{is_barred}
use Rattle.lt_waits.proofs.tallied.Tallied.is_barred.Goals as goal

pub returns-in-Some : goal.returns-in-Some
returns-in-Some c =
    c.is_barred_from.ensures
    ∙ ap (λ (o : Option Holding). is_barred c.args.self.now.script c.args.self.now.lines o c.args.other) (sym c.in-Some.is ∙ c.want.ensures.want)
