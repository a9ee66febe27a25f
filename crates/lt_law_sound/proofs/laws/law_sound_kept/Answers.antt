use Rattle.lt_law_sound.proofs.NodeMoves.{commands_keep_sound, takes_keep_sound, sound_at_start, sound_in_worlds}
use Rattle.lt_law_sound.proofs.OwnMoves.{own_moves_keep_sound}
use Rattle.lt_law_sound.proofs.laws.law_sound_kept.Goals as goal

pub returns : goal.returns
returns c = record {
  start = sound_at_start;
  commands = commands_keep_sound;
  takes = takes_keep_sound;
  moves = own_moves_keep_sound;
  worlds = sound_in_worlds;
}
