use Rattle.lt_law_any.proofs.RunOpened.{order_rows, runs_say, soaks_say, others_say}
use Rattle.lt_law_any.proofs.runs.law_any_run.Goals as goal

pub returns : goal.returns
returns c = record { order = order_rows; runs = runs_say; soaks = soaks_say; others = others_say }
