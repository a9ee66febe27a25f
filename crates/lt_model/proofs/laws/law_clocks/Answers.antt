use Rattle.lt_model.proofs.laws.law_clocks.Goals as goal
use Rattle.lt_model.proofs.ClocksGrow.{clock_moves, other_clocks_stay, stamps_kept, clocks_in_runs}

pub returns : goal.returns
returns c = record { mover = clock_moves; others = other_clocks_stay; letters = stamps_kept; run = clocks_in_runs }
