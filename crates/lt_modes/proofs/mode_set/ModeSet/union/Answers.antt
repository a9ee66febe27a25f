use Rattle.lt_modes.proofs.MaskLemmas.{or_below, modes_of_or}
use Rattle.lt_modes.proofs.mode_set.ModeSet.union.Goals as goal

pub invariant_of-result : goal.invariant_of-result
invariant_of-result c =
    or_below c.self.inside.mask c.other.inside.mask c.self.invariant c.other.invariant

pub returns : goal.returns
returns c =
    rw (← c.self.view_is, ← c.other.view_is) (modes_of_or c.self.inside.mask c.other.inside.mask c.self.invariant c.other.invariant)
