use Rattle.std.proofs.Common.{refl}
use Rattle.lt_modes.specs.State.{TokenBody}
use Rattle.lt_letters.specs.Reading.{token_from, desk_from}
use Rattle.lt_letters.proofs.ends.token_end.Goals as goal

pub returns : goal.returns
unfolding token_from desk_from
returns c = (TokenBody (record { epoch = c.in_ok-_epoch._epoch; number = c.in_ok-_number._number; queue = c.in_ok-rest.ensures.0; entries = c.in_ok-rest-2.ensures.0 }), rw (c.in_ok-_epoch.ensures, c.in_ok-_number.ensures, c.in_ok-rest.ensures.1, c.in_ok-rest-2.ensures.1) refl)
