use Rattle.lt_modes.proofs.MaskLemmas.{same_mask}
use Rattle.lt_modes.proofs.mode_set.ModeSet.same.Goals as goal

pub returns : goal.returns
returns c =
    rw (← c.self.view_is, ← c.other.view_is) (same_mask c.self.inside.mask c.other.inside.mask c.self.invariant c.other.invariant)
