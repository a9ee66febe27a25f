use Rattle.std.proofs.Common.{◌≡◌, ◌<◌, ℕ, length}
use Rattle.lt_inbox.specs.Counts.{counts_to, count_between}
use Rattle.lt_inbox.proofs.counting.no_counts.Given as goal

abbrev pub invariant-loop : goal.invariant-loop
invariant-loop l = record {
  count : length l.rows.items ≡ l.counter;
  senders : (q : ℕ) → q < l.counter → length (counts_to l.rows.items q) ≡ l.nodes;
  none : (p q : ℕ) → count_between l.rows.items p q ≡ 0;
}
