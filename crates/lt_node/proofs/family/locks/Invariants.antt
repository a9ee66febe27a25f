use Rattle.std.proofs.Common.{◌-◌, length}
use Rattle.lt_spec.specs.NodeMove.{family}
use Rattle.lt_node.proofs.FamilyLemmas.{IsCounted, IsWalk, place_of_next}
use Rattle.lt_node.proofs.family.locks.Given as goal

abbrev pub invariant-loop-next : goal.invariant-loop-next
invariant-loop-next l = IsWalk l.script.sets (family l.script l.set) (λ k. IsCounted l.script l.set l.client l.sets k l.locks) l.next

abbrev pub decreases-loop-next : goal.decreases-loop-next
decreases-loop-next l = length l.script.sets - place_of_next l.script.sets l.next
