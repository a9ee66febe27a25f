use Rattle.std.proofs.Common.{refl}
use Rattle.lt_letters.specs.Reading.{entry_from}
use Rattle.lt_letters.proofs.ends.entry_end.Goals as goal

pub returns : goal.returns
unfolding entry_from
returns c = (record { reported = c.in_ok-rest.ensures.0; owed = c.in_ok-rest-2.ensures.0; told_at = c.in_ok-_told_at._told_at; pending = c.in_ok-rest-3.ensures.0; frozen_told = c.in_ok-rest-4.ensures.0 }, rw (c.in_ok-rest.ensures.1, c.in_ok-rest-2.ensures.1, c.in_ok-_told_at.ensures, c.in_ok-rest-3.ensures.1, c.in_ok-rest-4.ensures.1) refl)
