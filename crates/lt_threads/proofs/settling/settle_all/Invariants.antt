-- The loop over runners.
use Rattle.std.proofs.Common.{◌≡◌, length}
use Rattle.lt_runner.specs.Kept.{Grew}
use Rattle.lt_threads.specs.Meeting.{EachIs}
use Rattle.lt_threads.proofs.SharedRunners.{SettledTo}
use Rattle.lt_threads.proofs.settling.settle_all.Given as goal

abbrev pub invariant-loop-place : goal.invariant-loop-place
invariant-loop-place g l = record {
  grew : EachIs Grew l.initial.runners.items l.runners.items;
  count : length l.runners.items ≡ length l.initial.runners.items;
  settled : SettledTo l.patience l.place l.runners.items;
}
