use Rattle.std.proofs.Common.{◌≡◌, false}
use Rattle.lt_lists.specs.Below.{any_below}
use Rattle.lt_spec.specs.World.{is_waiting}
use Rattle.lt_world.specs.Fields.{world_of}
use Rattle.lt_world.proofs.world.World.anyone_waits.Given as goal

abbrev pub invariant-loop-client : goal.invariant-loop-client
invariant-loop-client l = any_below l.client (is_waiting l.self.script (world_of l.self)) ≡ false
