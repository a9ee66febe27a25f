use Rattle.std.proofs.Common.{◌≡◌, false}
use Rattle.lt_lists.specs.Below.{any_below}
use Rattle.lt_modes.specs.declared.moves.Step.TheVariants.{Take}
use Rattle.lt_spec.specs.World.{is_enabled}
use Rattle.lt_world.specs.Fields.{world_of}
use Rattle.lt_world.proofs.world.World.can_take.Given as goal

abbrev pub invariant-loop-sender : goal.invariant-loop-sender
invariant-loop-sender l = any_below l.sender (λ p. is_enabled l.self.script (world_of l.self) l.node (Take p)) ≡ false
