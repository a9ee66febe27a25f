use Rattle.lt_model.proofs.laws.law_paths.Goals as goal
use Rattle.lt_model.proofs.Runs.{paths_kept, paths_in_runs}
use Rattle.lt_model.proofs.PathsHandOver.{effects_on_path}
use Rattle.lt_model.proofs.PathsMove.{desk_somewhere, token_comes}

pub returns : goal.returns
returns c = record { effects = effects_on_path; step = paths_kept; run = paths_in_runs; desk = desk_somewhere; comes = token_comes }
