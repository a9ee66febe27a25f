use Rattle.std.proofs.Common.{◌-◌, length}
use Rattle.lt_spec.specs.NodeMove.{family}
use Rattle.lt_node.specs.NodeData.{state_of}
use Rattle.lt_node.proofs.FamilyLemmas.{IsWalk, place_of_next}
use Rattle.lt_node.proofs.TouchedLemmas.{IsCountedTo}
use Rattle.lt_node.proofs.node.Node.leaves_room_to_drop.Given as goal

abbrev pub invariant-loop-next : goal.invariant-loop-next
invariant-loop-next l =
    IsWalk l.script.sets (family l.script l.set) (λ k. IsCountedTo l.fn.self.script (state_of l.self) l.client l.set l.other k l.locks) l.next

abbrev pub decreases-loop-next : goal.decreases-loop-next
decreases-loop-next l = length l.script.sets - place_of_next l.script.sets l.next
