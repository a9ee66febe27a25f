use Rattle.lt_law_plays.proofs.laws.law_letters.Goals as goal
use Rattle.lt_law_plays.proofs.MergedRun.{hand_is_front, sent_were_on_way, on_way_were_sent}
use Rattle.lt_law_plays.proofs.LowClocks.{enabled_is_seen}

pub returns : goal.returns
returns c = record { hand = hand_is_front; enabled = enabled_is_seen; on_way = sent_were_on_way; sent = on_way_were_sent }
