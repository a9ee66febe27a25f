use Rattle.lt_letters.specs.Reading.{ask_from}
use Rattle.lt_letters.proofs.Loop.{IsPast}
use Rattle.lt_letters.proofs.ends.each_ask_end.Given as goal

abbrev pub invariant-loop : goal.invariant-loop
invariant-loop l = IsPast ask_from l.count l.counter l.bytes l.rest
