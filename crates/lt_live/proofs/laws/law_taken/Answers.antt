use Rattle.lt_live.proofs.Taking.{turns_keep_known, turn_takes_next}
use Rattle.lt_live.proofs.laws.law_taken.Goals as goal

pub returns : goal.returns
returns c = record { known = turns_keep_known; next = turn_takes_next }
