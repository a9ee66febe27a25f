use Rattle.lt_nest.proofs.WaitsFor.{waits_for_some, waits_for_others, only_waiters_wait}
use Rattle.lt_nest.proofs.laws.law_waits.Goals as goal

pub returns : goal.returns
returns c = record {
  some = waits_for_some;
  others = waits_for_others;
  only_waiters = only_waiters_wait;
}
