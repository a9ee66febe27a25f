use Rattle.lt_law_own_lines.proofs.laws.law_peers.Goals as goal
use Rattle.lt_law_own_lines.proofs.Moves.{names_at_start, acts_reach_peers, takes_reach_peers}

pub returns : goal.returns
returns c = record { start = names_at_start; acts = acts_reach_peers; takes = takes_reach_peers }
