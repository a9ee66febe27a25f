use Rattle.std.proofs.Common.{◌-◌, sym, arith, ◌∙◌}
use Rattle.lt_merge.proofs.Placing.{stays_at_last}
use Rattle.lt_merge.proofs.heads.settle.Goals as goal

pub returns : goal.returns
returns c =
    sym (stays_at_last c.loop-k.heads.items (c.loop-k.k - 1) c.loop-k.k (omega (arith, c.loop-k.invariant.some)) (omega (arith, c.loop-k.heads.ok.0, c.len.ensures)))
    ∙ c.loop-k.invariant.settles
