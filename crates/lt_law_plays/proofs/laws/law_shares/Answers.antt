use Rattle.lt_law_plays.proofs.laws.law_shares.Goals as goal
use Rattle.lt_law_plays.proofs.Appending.{plays_same_at, share_is_same, shared_plays, shared_commands}

pub returns : goal.returns
returns c = record { plays = plays_same_at; share = share_is_same; shared = shared_plays; commands = shared_commands }
