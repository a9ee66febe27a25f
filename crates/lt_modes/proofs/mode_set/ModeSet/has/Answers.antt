use Rattle.lt_modes.proofs.MaskLemmas.{has_bit}
use Rattle.lt_modes.proofs.mode_set.ModeSet.has.Goals as goal

pub returns : goal.returns
returns c =
    rw (c.bit.ensures, ← c.self.view_is) (has_bit c.args.mode c.self.inside.mask c.self.invariant)
