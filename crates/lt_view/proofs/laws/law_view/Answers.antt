use Rattle.lt_view.proofs.Among.{finds_held, finds_none_held, holds_by_locks}
use Rattle.lt_view.proofs.laws.law_view.Goals as goal

pub returns : goal.returns
returns c = record {
  finds = finds_held;
  none = finds_none_held;
  locks = holds_by_locks;
}
