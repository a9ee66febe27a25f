use Rattle.lt_law_merged.proofs.laws.law_joined.Goals as goal
use Rattle.lt_law_merged.proofs.PartLogs.{joined_runs, joined_merges, logs_of_parts}

pub returns : goal.returns
returns c = record { runs = joined_runs; exists = joined_merges; logs = logs_of_parts }
