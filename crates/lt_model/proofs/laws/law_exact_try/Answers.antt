use Rattle.lt_model.proofs.laws.law_exact_try.Goals as goal
use Rattle.lt_model.proofs.ExactTry.{try_is_exact, tries_are_exact, tries_in_runs}

pub returns : goal.returns
returns c = record { tells = try_is_exact; only = tries_are_exact; run = tries_in_runs }
