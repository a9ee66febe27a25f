use Rattle.std.proofs.Common.{refl}
use Rattle.lt_modes.specs.State.{CopyBody}
use Rattle.lt_letters.specs.Reading.{copy_from}
use Rattle.lt_letters.proofs.ends.copy_end.Goals as goal

pub returns : goal.returns
unfolding copy_from
returns c = (CopyBody c.in_ok-_ask._ask, rw (c.in_ok-_ask.ensures) refl)
