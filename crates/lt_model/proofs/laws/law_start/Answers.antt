use Rattle.lt_model.proofs.laws.law_start.Goals as goal
use Rattle.lt_model.proofs.StartKept.{start_kept, lines_start}

pub returns : goal.returns
returns c = record { world = start_kept; lines = lines_start }
