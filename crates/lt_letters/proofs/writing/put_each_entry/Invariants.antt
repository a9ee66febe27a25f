use Rattle.std.proofs.Common.{◌≡◌, ◌≤◌, ◌++◌, map, take, vec_capacity}
use Rattle.std.specs.List.{flat_map}
use Rattle.lt_table.specs.Seen.{entry_seen}
use Rattle.lt_letters.specs.Spelling.{entry_bytes}
use Rattle.lt_letters.proofs.writing.put_each_entry.Given as goal

abbrev pub invariant-loop-entry : goal.invariant-loop-entry
invariant-loop-entry l = (l.out.items ≡ l.fn.out.items ++ flat_map entry_bytes (map entry_seen (take l.entry-index l.entries))) × (vec_capacity l.fn.out ≤ vec_capacity l.out)
