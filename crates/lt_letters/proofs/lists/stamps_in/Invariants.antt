use Rattle.std.proofs.Common.{◌≡◌, ◌-◌, length}
use Rattle.lt_letters.specs.Reading.{many_from, stamp_from}
use Rattle.lt_letters.proofs.Loop.{with_front}
use Rattle.lt_letters.proofs.lists.stamps_in.Given as goal

abbrev pub invariant-loop : goal.invariant-loop
invariant-loop l = (length l.stamps ≡ l.counter) × (with_front l.stamps (many_from stamp_from (l.count - l.counter) l.rest) ≡ many_from stamp_from l.count l.bytes)
