use Rattle.std.proofs.Common.{◌≡◌, ◌≤◌, ◌++◌, take, vec_capacity}
use Rattle.std.specs.List.{flat_map}
use Rattle.lt_letters.specs.Spelling.{stamp_bytes}
use Rattle.lt_letters.proofs.writing.put_each_stamp.Given as goal

abbrev pub invariant-loop-k : goal.invariant-loop-k
invariant-loop-k l = (l.out.items ≡ l.fn.out.items ++ flat_map stamp_bytes (take l.k l.stamps)) × (vec_capacity l.fn.out ≤ vec_capacity l.out)
