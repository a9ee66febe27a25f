use Rattle.lt_law_enabled.proofs.Order.{rests, acts_where, takes_where, picks_first, picks_within}
use Rattle.lt_law_enabled.proofs.laws.law_order.Goals as goal

pub returns : goal.returns
returns c = record {
  rest = rests;
  act = acts_where;
  take = takes_where;
  first = picks_first;
  none = picks_within;
}
