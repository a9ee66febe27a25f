use Rattle.lt_law_own_lines.proofs.WaitingMoves.{waiting_in_commands, waiting_in_takes, waiting_in_acts, waiting_in_node_takes, known_where_sound}
use Rattle.lt_law_own_lines.proofs.laws.law_waiting_lines.Goals as goal

pub returns : goal.returns
returns c = record {
  commands = waiting_in_commands;
  takes = waiting_in_takes;
  act = waiting_in_acts;
  take = waiting_in_node_takes;
  known = known_where_sound;
}
