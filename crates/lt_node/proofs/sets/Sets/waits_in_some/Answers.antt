use Rattle.std.proofs.Common.{◌∙◌, ap, arith, length, sym}
use Rattle.lt_lists.proofs.Searches.{any_below_at}
use Rattle.lt_modes.specs.Waiting.{waits}
use Rattle.lt_modes.specs.State.{SetState}
use Rattle.lt_node.specs.Sets.{core_in}
use Rattle.lt_node.proofs.sets.Sets.waits_in_some.Goals as goal

pub returns-then-waits : goal.returns-then-waits
returns-then-waits c =
    let n = c.args.self.now in
    sym (any_below_at (length n.cores) c.loop-set.set (λ s. waits (core_in n s).state c.args.client) (omega (arith, c.loop-set-test.true, c.count-set-end.ensures))
    (ap (λ (t : SetState). waits t c.args.client) (sym c.core.ensures.state) ∙ sym c.waits.ensures ∙ c.if-waits.true))
