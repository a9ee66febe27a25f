use Rattle.lt_law_plays.proofs.laws.law_merge.Goals as goal
use Rattle.lt_law_plays.proofs.MergedLogs.{merged_exists, merged_has_all, merged_is_one}
use Rattle.lt_law_plays.proofs.MergedRun.{merged_is_run, merged_ends}

pub returns : goal.returns
returns c = record { run = merged_is_run; ends = merged_ends; exists = merged_exists; all = merged_has_all; one = merged_is_one }
