use Rattle.lt_live.proofs.InHand.{hand_may_ask, hands_can_append, looks_leave_hands, none_stays_in_hand}
use Rattle.lt_live.proofs.laws.law_in_hand.Goals as goal

pub returns : goal.returns
returns c = record { may = hand_may_ask; can = hands_can_append; looks = looks_leave_hands; none = none_stays_in_hand }
