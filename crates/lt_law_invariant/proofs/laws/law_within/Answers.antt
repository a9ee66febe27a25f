use Rattle.lt_law_invariant.proofs.laws.law_within.Goals as goal
use Rattle.lt_law_invariant.proofs.FewAsks.{nodes_within, drops_within, asks_placed}

pub returns : goal.returns
returns c = record { within = nodes_within; drops = drops_within; asks = asks_placed }
