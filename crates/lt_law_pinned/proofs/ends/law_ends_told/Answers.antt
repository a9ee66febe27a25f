use Rattle.lt_law_pinned.proofs.EndsOpened.{order_ends, live_order_ends}
use Rattle.lt_law_pinned.proofs.ends.law_ends_told.Goals as goal

pub returns : goal.returns
returns c = record { order = order_ends; live = live_order_ends }
