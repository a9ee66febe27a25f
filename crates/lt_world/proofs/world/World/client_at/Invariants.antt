use Rattle.std.proofs.Common.{◌≡◌, None, IfSome}
use Rattle.lt_spec.specs.FixedOrder.{act_after}
use Rattle.lt_world.specs.Fields.{world_of, IsRunnable}
use Rattle.lt_world.proofs.world.World.client_at.Given as goal

abbrev pub invariant-loop-left : goal.invariant-loop-left
invariant-loop-left l = record {
  places : act_after l.self.script (world_of l.self) l.earlier l.left ≡ act_after l.self.script (world_of l.self) None l.k;
  inside : IfSome l.earlier (IsRunnable l.self);
}

abbrev pub decreases-loop-left : goal.decreases-loop-left
decreases-loop-left l = l.left
