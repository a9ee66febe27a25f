use Rattle.lt_live.proofs.laws.law_told.Goals as goal
use Rattle.lt_live.proofs.Finished.{replies_of_lines, replies_in_log}

pub returns : goal.returns
returns c = record { lines = replies_of_lines; log = replies_in_log }
