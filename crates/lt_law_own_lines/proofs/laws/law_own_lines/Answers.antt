use Rattle.lt_law_own_lines.proofs.OwnEffects.{own_lines_of_moves}
use Rattle.lt_law_own_lines.proofs.OwnRuns.{own_lines_in_runs, replies_at_home, replies_of_log, replies_so_far, replies_append}
use Rattle.lt_law_own_lines.proofs.laws.law_own_lines.Goals as goal

pub returns : goal.returns
returns c = record {
  step = own_lines_of_moves;
  run = own_lines_in_runs;
  replies = replies_at_home;
  log = replies_of_log;
  so_far = replies_so_far;
  grow = replies_append;
}
