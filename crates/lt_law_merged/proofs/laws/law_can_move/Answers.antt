use Rattle.lt_law_merged.proofs.laws.law_can_move.Goals as goal
use Rattle.lt_law_merged.proofs.PartLogs.{can_move_is_seen, can_move_is_enabled, rest_is_no_move}

pub returns : goal.returns
returns c = record { seen = can_move_is_seen; enabled = can_move_is_enabled; rest = rest_is_no_move c.law_order.ensures.rest }
