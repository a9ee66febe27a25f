use Rattle.std.proofs.Common.{◌-◌, length}
use Rattle.lt_spec.specs.NodeMove.{family}
use Rattle.lt_node.proofs.FamilyLemmas.{IsAt, IsWalk, place_of_next}
use Rattle.lt_node.proofs.family.end_each.Given as goal

abbrev pub invariant-loop-next : goal.invariant-loop-next
invariant-loop-next l =
    IsWalk l.script.sets (family l.script l.set) (λ k. IsAt l.script l.stamp l.dropped l.set l.initial.sets l.initial.out k l.sets l.out) l.next

abbrev pub decreases-loop-next : goal.decreases-loop-next
decreases-loop-next l = length l.script.sets - place_of_next l.script.sets l.next
