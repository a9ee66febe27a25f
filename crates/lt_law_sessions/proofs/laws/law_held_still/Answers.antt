-- Each of the rows, and the corollary.
use Rattle.lt_law_sessions.proofs.Kept.{taking_rows, leaving_rows, others_take_nothing, tried_is_had, changed_is_had, held_beside_others, granted_exclude, reply_rows}
use Rattle.lt_law_sessions.proofs.laws.law_held_still.Goals as goal

pub returns : goal.returns
returns c = record {
  taking = taking_rows;
  leaving = leaving_rows;
  others = others_take_nothing;
  tried = tried_is_had;
  changed = changed_is_had;
  beside = held_beside_others;
  granted = granted_exclude;
  replies = reply_rows;
}
