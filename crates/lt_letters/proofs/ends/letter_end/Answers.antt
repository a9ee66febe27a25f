use Rattle.std.proofs.Common.{refl}
use Rattle.lt_letters.specs.Reading.{letter_from, body_from}
use Rattle.lt_letters.proofs.ends.letter_end.Goals as goal

pub returns : goal.returns
unfolding letter_from body_from
returns c = (record { stamp = c.in_ok-_stamp._stamp; set = c.in_ok-_set._set; link = c.in_ok-_link._link; body = c.in_ok-rest.ensures.0 }, rw (c.in_ok-_stamp.ensures, c.in_ok-_set.ensures, c.in_ok-_link.ensures, c.in_ok-kind.ensures, c.in_ok-rest.ensures.1) refl)
