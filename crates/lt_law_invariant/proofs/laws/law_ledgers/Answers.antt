use Rattle.lt_law_invariant.proofs.laws.law_ledgers.Goals as goal
use Rattle.lt_law_invariant.proofs.HeldUpMoves.{moves_keep_ledgers}

pub returns : goal.returns
returns c = moves_keep_ledgers
