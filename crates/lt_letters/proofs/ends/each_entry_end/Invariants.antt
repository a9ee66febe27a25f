use Rattle.lt_letters.specs.Reading.{entry_from}
use Rattle.lt_letters.proofs.Loop.{IsPast}
use Rattle.lt_letters.proofs.ends.each_entry_end.Given as goal

abbrev pub invariant-loop : goal.invariant-loop
invariant-loop l = IsPast entry_from l.nodes l.counter l.bytes l.rest
