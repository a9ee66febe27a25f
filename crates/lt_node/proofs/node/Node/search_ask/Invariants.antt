use Rattle.std.proofs.Common.{◌≡◌, None}
use Rattle.lt_node.specs.NodeData.{state_of, ask_below}
use Rattle.lt_node.proofs.node.Node.search_ask.Given as goal

abbrev pub invariant-loop-set : goal.invariant-loop-set
invariant-loop-set l = ask_below (state_of l.self) l.client l.set ≡ None
