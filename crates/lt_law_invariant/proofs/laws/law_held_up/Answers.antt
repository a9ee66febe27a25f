use Rattle.lt_law_invariant.proofs.laws.law_held_up.Goals as goal
use Rattle.lt_law_invariant.proofs.HeldUpMoves.{moves_hold_up}

pub returns : goal.returns
returns c = moves_hold_up
