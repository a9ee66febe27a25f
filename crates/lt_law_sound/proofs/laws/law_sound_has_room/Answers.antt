use Rattle.lt_law_sound.proofs.Room.{room_for_commands, room_for_takes}
use Rattle.lt_law_sound.proofs.OwnMoves.{own_moves_have_room}
use Rattle.lt_law_sound.proofs.laws.law_sound_has_room.Goals as goal

pub returns : goal.returns
returns c = record { commands = room_for_commands; takes = room_for_takes; moves = own_moves_have_room }
