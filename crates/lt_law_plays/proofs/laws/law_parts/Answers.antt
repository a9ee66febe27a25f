use Rattle.lt_law_plays.proofs.laws.law_parts.Goals as goal
use Rattle.lt_law_plays.proofs.PlayLemmas.{joined_are_plays}
use Rattle.lt_law_plays.proofs.RunParts.{runs_are_plays}

pub returns : goal.returns
returns c = record { joined = joined_are_plays; run = runs_are_plays }
