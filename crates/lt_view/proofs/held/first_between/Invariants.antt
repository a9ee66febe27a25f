use Rattle.std.proofs.Common.{◌≡◌, ◌-◌, None}
use Rattle.lt_node.specs.NodeData.{state_of}
use Rattle.lt_view.specs.View.{held_among}
use Rattle.lt_view.proofs.held.first_between.Given as goal

abbrev pub invariant-loop-set : goal.invariant-loop-set
invariant-loop-set l = held_among (state_of l.node) l.client l.from (l.set - l.from) ≡ None
