use Rattle.lt_modes.proofs.MaskLemmas.{or_within}
use Rattle.lt_modes.proofs.mode_set.ModeSet.is_within.Goals as goal

pub returns : goal.returns
returns c =
    rw (← c.self.view_is, ← c.other.view_is) (or_within c.self.inside.mask c.other.inside.mask c.self.invariant c.other.invariant)
