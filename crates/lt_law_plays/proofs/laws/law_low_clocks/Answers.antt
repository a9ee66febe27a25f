use Rattle.lt_law_plays.proofs.laws.law_low_clocks.Goals as goal
use Rattle.lt_law_plays.proofs.LowClocks.{clocks_are_counted, letters_are_counted, heads_fit}

pub returns : goal.returns
returns c = record { counted = clocks_are_counted; letters = letters_are_counted; heads = heads_fit }
