use Rattle.lt_letters.specs.Reading.{owed_from}
use Rattle.lt_letters.proofs.Loop.{IsPast}
use Rattle.lt_letters.proofs.ends.owed_end.Given as goal

abbrev pub invariant-loop : goal.invariant-loop
invariant-loop l = IsPast owed_from l.count l.counter l.bytes l.rest
