use Rattle.std.proofs.Common.{◌≡◌, ◌+◌, ◌≤◌, ◌++◌, length, map}
use Rattle.std.specs.Vec.{vec_len, vec_capacity}
use Rattle.lt_spec.specs.Holdings.{waits_behind_void}
use Rattle.lt_spec.specs.Rings.{numbers_below}
use Rattle.lt_world.specs.Fields.{world_of}
use Rattle.lt_world.proofs.world.World.push_voids.Given as goal

abbrev pub invariant-loop-other : goal.invariant-loop-other
invariant-loop-other l =
    (l.marks.items ≡ l.fn.marks.items ++ map (waits_behind_void l.self.script (world_of l.self) l.client) (numbers_below l.other))
    × (vec_len l.marks + length l.self.script.clients ≤ vec_capacity l.marks + l.other)
