use Rattle.std.proofs.Common.{refl}
use Rattle.lt_modes.specs.State.{AskBody}
use Rattle.lt_letters.specs.Reading.{asking_from}
use Rattle.lt_letters.proofs.ends.asking_end.Goals as goal

pub returns : goal.returns
unfolding asking_from
returns c = (AskBody c.in_ok-_ask._ask c.in_ok-_by_hoped._by_hoped, rw (c.in_ok-_ask.ensures, c.in_ok-_by_hoped.ensures) refl)
