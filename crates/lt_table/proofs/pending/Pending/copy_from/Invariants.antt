use Rattle.std.proofs.Common.{◌≡◌, take}
use Rattle.lt_table.proofs.pending.Pending.copy_from.Given as goal

abbrev pub invariant-loop-stamp : goal.invariant-loop-stamp
invariant-loop-stamp l = l.self-inside.stamps.items ≡ take l.stamp-index l.stamp-items
