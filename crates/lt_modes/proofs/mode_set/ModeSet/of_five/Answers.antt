use Rattle.lt_modes.proofs.MaskLemmas.{and_five_below, five_of_mask}
use Rattle.lt_modes.proofs.mode_set.ModeSet.of_five.Goals as goal

pub invariant_of-result : goal.invariant_of-result
invariant_of-result c = and_five_below c.self.inside.mask c.self.invariant

pub returns : goal.returns
returns c = rw (← c.self.view_is) (five_of_mask c.self.inside.mask c.self.invariant)
