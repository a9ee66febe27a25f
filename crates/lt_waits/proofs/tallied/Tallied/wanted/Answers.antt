use Rattle.std.proofs.Common.{◌∙◌, ◌<◌, ap, length, subst, sym}
use Rattle.lt_spec.specs.Holdings.{lines_of, wanted}
use Rattle.lt_waits.specs.Tallied.{TalliedData}
use Rattle.lt_waits.proofs.tallied.Tallied.wanted.Goals as goal

pub returns : goal.returns
returns c =
    let below = subst (λ (t : TalliedData). c.args.client < length t.script.clients) (sym c.self.view_is) c.requires in
    c.wanted.ensures c.self.inside.script.now (lines_of c.self.inside.run.now.entries) c.self.invariant below
    ∙ ap (λ (t : TalliedData). wanted c.args.client t.lines) c.self.view_is
