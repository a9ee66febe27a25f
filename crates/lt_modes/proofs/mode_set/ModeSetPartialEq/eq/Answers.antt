use Rattle.lt_modes.specs.FiveModes.{mask_of_modes_of}
use Rattle.lt_modes.proofs.mode_set.ModeSetPartialEq.eq.Goals as goal

pub returns : goal.returns
returns c =
    let left = mask_of_modes_of c.t1-1.inside.mask c.t1-1.invariant in
    let right = mask_of_modes_of c.t2-1.inside.mask c.t2-1.invariant in
    rw (← c.t1-1.view_is, ← c.t2-1.view_is, left, right) c.eq.ensures
