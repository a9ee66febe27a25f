use Rattle.lt_law_waiting.proofs.KeptAsks.{only_waiters_are_behind}
use Rattle.lt_law_waiting.proofs.WaitsAtRest.{each_has_reason}
use Rattle.lt_law_waiting.proofs.Explained.{waiters_have_reasons, void_pairs_are_reported, ends_have_reasons, waiters_have_lines}
use Rattle.lt_law_waiting.proofs.laws.law_void_waits.Goals as goal

pub returns : goal.returns
returns c = record {
  waiters = only_waiters_are_behind;
  some = each_has_reason;
  explained = waiters_have_reasons;
  pairs = void_pairs_are_reported;
  ends = ends_have_reasons;
  all = waiters_have_lines;
}
