use Rattle.lt_model.proofs.laws.law_moment.Goals as goal
use Rattle.lt_model.proofs.BeginsMove.{move_begins, aside_stays}
use Rattle.lt_model.proofs.SmallSteps.{moves_in_steps, moves_are_parts}

pub returns : goal.returns
returns c = record { begins = move_begins; aside = aside_stays; steps = moves_in_steps; parts = moves_are_parts }
