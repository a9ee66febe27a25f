use Rattle.std.proofs.Common.{◌≡◌, ◌<◌, ℕ, false}
use Rattle.lt_spec.specs.World.{is_full}
use Rattle.lt_world.proofs.world.World.full.Given as goal

abbrev pub invariant-loop-node : goal.invariant-loop-node
invariant-loop-node l = (q : ℕ) → q < l.node → is_full l.self.script l.self.limit l.self.run q ≡ false
