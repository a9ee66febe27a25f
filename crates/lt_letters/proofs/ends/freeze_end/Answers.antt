use Rattle.std.proofs.Common.{refl}
use Rattle.lt_modes.specs.State.{FreezeBody}
use Rattle.lt_letters.specs.Reading.{freeze_from}
use Rattle.lt_letters.proofs.ends.freeze_end.Goals as goal

pub returns : goal.returns
unfolding freeze_from
returns c = (FreezeBody c.in_ok-_number._number c.in_ok-rest.ensures.0, rw (c.in_ok-_number.ensures, c.in_ok-rest.ensures.1) refl)
