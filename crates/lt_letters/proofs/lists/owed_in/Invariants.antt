use Rattle.std.proofs.Common.{◌≡◌, ◌-◌}
use Rattle.lt_letters.specs.Reading.{many_from, owed_from}
use Rattle.lt_letters.proofs.Loop.{with_front}
use Rattle.lt_letters.proofs.lists.owed_in.Given as goal

abbrev pub invariant-loop : goal.invariant-loop
invariant-loop l = with_front l.owed.items (many_from owed_from (l.count - l.counter) l.rest) ≡ many_from owed_from l.count l.bytes
