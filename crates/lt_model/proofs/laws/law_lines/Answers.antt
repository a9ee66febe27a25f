use Rattle.lt_model.proofs.laws.law_lines.Goals as goal
use Rattle.lt_model.proofs.LinesInRuns.{lines_in_runs, few_added}

pub returns : goal.returns
returns c = record { within = lines_in_runs; added = few_added }
