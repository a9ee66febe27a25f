use Rattle.lt_node.proofs.RoomLemmas.{few_still}
use Rattle.lt_node.proofs.room.reserve_marked.Goals as goal

pub reserve_set-requires-clause-few : goal.reserve_set-requires-clause-few
reserve_set-requires-clause-few c = few_still c.args.sets.now c.reserve_mark.new.self c.args.set c.in_ok-reserve_mark.ensures.same c.requires.few
