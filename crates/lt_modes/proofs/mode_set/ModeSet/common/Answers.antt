use Rattle.lt_modes.proofs.MaskLemmas.{and_below, modes_common}
use Rattle.lt_modes.proofs.mode_set.ModeSet.common.Goals as goal

pub invariant_of-result : goal.invariant_of-result
invariant_of-result c =
    and_below c.self.inside.mask c.other.inside.mask c.self.invariant c.other.invariant

pub returns : goal.returns
returns c =
    rw (← c.self.view_is, ← c.other.view_is) (modes_common c.self.inside.mask c.other.inside.mask c.self.invariant c.other.invariant)
