use Rattle.std.proofs.Common.{◌≡◌, ◌-◌, length, take}
use Rattle.lt_letters.specs.Reading.{many_from, entry_from}
use Rattle.lt_letters.proofs.Loop.{with_front}
use Rattle.lt_letters.proofs.lists.entries_in.Given as goal

abbrev pub invariant-loop-node : goal.invariant-loop-node
invariant-loop-node l = (length l.table.entries ≡ l.nodes) × (with_front (take l.node l.table.entries) (many_from entry_from (l.nodes - l.node) l.rest) ≡ many_from entry_from l.nodes l.bytes)
