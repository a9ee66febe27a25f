use Rattle.std.proofs.Common.{◌≡◌, ◌<◌, ℕ, false, length}
use Rattle.lt_inbox.specs.Mail.{senders_to, has_between}
use Rattle.lt_inbox.proofs.pairs.boxes_of.Given as goal

abbrev pub invariant-loop : goal.invariant-loop
invariant-loop l = record {
  count : length l.boxes.items ≡ l.counter;
  senders : (q : ℕ) → q < l.counter → length (senders_to l.boxes.items q) ≡ l.nodes;
  empty : (p q : ℕ) → has_between l.boxes.items p q ≡ false;
}
