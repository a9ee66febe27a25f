use Rattle.lt_law_invariant.proofs.laws.law_in_turn.Goals as goal
use Rattle.lt_law_invariant.proofs.ServiceOrder.{lines_are_of_services, served_in_turn}

pub returns : goal.returns
returns c = record { lines = lines_are_of_services; run = served_in_turn }
