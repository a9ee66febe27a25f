use Rattle.lt_core.proofs.NoticeLemmas.{moves_have_room}
use Rattle.lt_core.proofs.laws.law_room_to_move.Goals as goal

pub returns : goal.returns
returns c = moves_have_room
