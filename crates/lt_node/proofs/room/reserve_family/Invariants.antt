use Rattle.std.proofs.Common.{◌-◌, length}
use Rattle.lt_spec.specs.NodeMove.{family}
use Rattle.lt_node.proofs.FamilyLemmas.{IsWalk, place_of_next}
use Rattle.lt_node.proofs.RoomLemmas.{IsReservedTo}
use Rattle.lt_node.proofs.room.reserve_family.Given as goal

abbrev pub invariant-loop-next : goal.invariant-loop-next
invariant-loop-next l = IsWalk l.script.sets (family l.script l.set) (λ k. IsReservedTo l.script l.set k l.sent l.initial.sets l.sets) l.next

abbrev pub decreases-loop-next : goal.decreases-loop-next
decreases-loop-next l = length l.script.sets - place_of_next l.script.sets l.next
