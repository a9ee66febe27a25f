use Rattle.lt_live.proofs.laws.law_polled_in_turn.Goals as goal
use Rattle.lt_live.proofs.Telling.{polled_in_turn, no_more_than_submitted}

pub returns : goal.returns
returns c = record { turn = polled_in_turn; no_more = no_more_than_submitted }
