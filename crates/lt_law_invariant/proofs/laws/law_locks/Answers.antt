use Rattle.lt_law_invariant.proofs.laws.law_locks.Goals as goal
use Rattle.lt_law_invariant.proofs.HeldUpMoves.{locks_agree}

pub returns : goal.returns
returns c = locks_agree
