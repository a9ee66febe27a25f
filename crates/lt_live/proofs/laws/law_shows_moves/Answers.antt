use Rattle.lt_live.proofs.Moves.{shows_now}
use Rattle.lt_live.proofs.laws.law_shows_moves.Goals as goal

pub returns : goal.returns
returns c = shows_now
