use Rattle.std.proofs.Common.{◌≡◌, ◌≤◌, ◌++◌, take, vec_capacity}
use Rattle.std.specs.List.{flat_map}
use Rattle.lt_letters.specs.Spelling.{owed_bytes}
use Rattle.lt_letters.proofs.writing.put_each_owed.Given as goal

abbrev pub invariant-loop-one : goal.invariant-loop-one
invariant-loop-one l = (l.out.items ≡ l.fn.out.items ++ flat_map owed_bytes (take l.one-index l.owed)) × (vec_capacity l.fn.out ≤ vec_capacity l.out)
