use Rattle.std.proofs.Common.{◌≡◌, false}
use Rattle.lt_lists.specs.Below.{any_below}
use Rattle.lt_modes.specs.declared.moves.Step.TheVariants.{Act}
use Rattle.lt_spec.specs.World.{is_enabled}
use Rattle.lt_world.specs.Fields.{world_of}
use Rattle.lt_world.proofs.world.World.can_act.Given as goal

abbrev pub invariant-loop-client : goal.invariant-loop-client
invariant-loop-client l = any_below l.client (λ client. is_enabled l.self.script (world_of l.self) l.node (Act client)) ≡ false
