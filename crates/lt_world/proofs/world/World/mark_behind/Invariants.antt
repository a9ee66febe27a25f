use Rattle.std.proofs.Common.{◌||◌}
use Rattle.lt_modes.specs.Waiting.{stands_before, parked_behind}
use Rattle.lt_lists.specs.Below.{any_below}
use Rattle.lt_spec.specs.Facts.{state_at}
use Rattle.lt_node.specs.Marks.{AreAdded}
use Rattle.lt_world.specs.Fields.{world_of}
use Rattle.lt_world.proofs.world.World.mark_behind.Given as goal

abbrev pub invariant-loop-node : goal.invariant-loop-node
invariant-loop-node l = AreAdded (λ other. any_below l.node (λ q. stands_before (state_at (world_of l.self) l.set q) other l.client
    || parked_behind (state_at (world_of l.self) l.set q) other l.client)) l.fn.marks.items l.marks.items
