-- The logs that were taken, and then those of the runners that are left.
use Rattle.std.proofs.Common.{◌≡◌, ◌≤◌, ◌+◌, ◌++◌, length, map, vec_len, vec_capacity}
use Rattle.lt_threads.specs.Meeting.{HaveAll, run_entries, log_of}
use Rattle.lt_threads.proofs.finishing.take_logs.Given as goal

abbrev pub invariant-loop-runners : goal.invariant-loop-runners
invariant-loop-runners l = record {
  all : HaveAll l.runners.items;
  logs : map run_entries l.logs.items ++ map log_of l.runners.items ≡ map log_of l.initial.runners.items;
  room : length l.logs.items + length l.runners.items ≤ vec_capacity l.logs;
}

abbrev pub decreases-loop-runners : goal.decreases-loop-runners
decreases-loop-runners l = vec_len l.runners
