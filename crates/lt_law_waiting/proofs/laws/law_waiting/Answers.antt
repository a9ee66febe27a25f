use Rattle.lt_law_waiting.proofs.KeptAsks.{only_waiters_wait}
use Rattle.lt_law_waiting.proofs.WaitsAtRest.{each_waits_for_some, ended_hold}
use Rattle.lt_law_waiting.proofs.Explained.{waiters_are_explained, pairs_are_reported, ends_are_reported, waiters_are_reported}
use Rattle.lt_law_waiting.proofs.Unmarked.{unmarked_waits, unmarked_report}
use Rattle.lt_law_waiting.proofs.laws.law_waiting.Goals as goal

pub returns : goal.returns
returns c = record {
  waiters = only_waiters_wait;
  some = each_waits_for_some;
  ended = ended_hold;
  explained = waiters_are_explained;
  pairs = pairs_are_reported;
  ends = ends_are_reported;
  all = waiters_are_reported;
  unmarked = unmarked_waits;
  no_void = unmarked_report;
}
