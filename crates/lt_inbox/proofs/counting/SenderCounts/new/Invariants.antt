use Rattle.std.proofs.Common.{◌≡◌, ℕ, length}
use Rattle.lt_inbox.specs.Counts.{count_from}
use Rattle.lt_inbox.proofs.counting.SenderCounts.new.Given as goal

abbrev pub invariant-loop : goal.invariant-loop
invariant-loop l = record {
  senders : length l.counts.items ≡ l.counter;
  none : (p : ℕ) → count_from l.counts.items p ≡ 0;
}
