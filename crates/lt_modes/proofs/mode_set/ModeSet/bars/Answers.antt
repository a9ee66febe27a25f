use Rattle.lt_modes.proofs.MaskLemmas.{bars_below, bars_of_mask}
use Rattle.lt_modes.proofs.mode_set.ModeSet.bars.Goals as goal

pub invariant_of-result : goal.invariant_of-result
invariant_of-result c =
    rw (c.from.ensures, c.from-2.ensures, c.from-3.ensures) (bars_below c.self.inside.mask c.self.invariant)

pub returns : goal.returns
returns c =
    rw (c.from.ensures, c.from-2.ensures, c.from-3.ensures, ← c.self.view_is) (bars_of_mask c.self.inside.mask c.self.invariant)
