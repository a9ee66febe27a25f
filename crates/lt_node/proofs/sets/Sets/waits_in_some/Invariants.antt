use Rattle.std.proofs.Common.{◌≡◌, false}
use Rattle.lt_modes.specs.Waiting.{waits}
use Rattle.lt_lists.specs.Below.{any_below}
use Rattle.lt_node.specs.Sets.{core_in}
use Rattle.lt_node.proofs.sets.Sets.waits_in_some.Given as goal

abbrev pub invariant-loop-set : goal.invariant-loop-set
invariant-loop-set l = any_below l.set (λ s. waits (core_in l.self s).state l.client) ≡ false
