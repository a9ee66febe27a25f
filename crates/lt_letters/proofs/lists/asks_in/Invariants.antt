use Rattle.std.proofs.Common.{◌≡◌, ◌-◌, length}
use Rattle.lt_letters.specs.Reading.{many_from, ask_from}
use Rattle.lt_letters.proofs.Loop.{with_front}
use Rattle.lt_letters.proofs.lists.asks_in.Given as goal

abbrev pub invariant-loop : goal.invariant-loop
invariant-loop l = (length l.asks.items ≡ l.counter) × (with_front l.asks.items (many_from ask_from (l.count - l.counter) l.rest) ≡ many_from ask_from l.count l.bytes)
