use Rattle.lt_law_own_lines.proofs.laws.law_old_lines.Goals as goal
use Rattle.lt_law_own_lines.proofs.OldLines.{unmarked_in_runs, old_lines_in_runs}

pub returns : goal.returns
returns c = record { unmarked = unmarked_in_runs; lines = old_lines_in_runs }
