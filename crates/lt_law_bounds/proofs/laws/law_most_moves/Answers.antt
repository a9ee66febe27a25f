-- Each of the bounds.
use Rattle.lt_law_bounds.proofs.Counted.{tokens_by_commands, weighs_by_commands, weighs_at_most, moves_by_commands}
use Rattle.lt_law_bounds.proofs.laws.law_most_moves.Goals as goal

pub returns : goal.returns
returns c = record {
  tokens = tokens_by_commands;
  weight = weighs_by_commands;
  bound = weighs_at_most;
  moves = moves_by_commands;
}
