use Rattle.std.proofs.Common.{drop}
use Rattle.lt_node.specs.NodeData.{state_of}
use Rattle.lt_node.proofs.OwnLemmas.{NoneBefore}
use Rattle.lt_node.proofs.own.first_of.Given as goal

abbrev pub invariant-loop-place : goal.invariant-loop-place
invariant-loop-place l = NoneBefore l.node.script l.node.me (state_of l.node) (drop l.place l.own)
