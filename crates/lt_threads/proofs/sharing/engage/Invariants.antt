-- The loop that makes workers.
use Rattle.std.proofs.Common.{◌≡◌, ◌≤◌, length, vec_capacity}
use Rattle.lt_threads.specs.Workers.{AreFree, after_splits}
use Rattle.lt_threads.proofs.sharing.engage.Given as goal

abbrev pub invariant-loop-place : goal.invariant-loop-place
invariant-loop-place l = record {
  free : AreFree l.pool l.hands.items;
  first : l.first ≡ after_splits l.pool l.place;
  count : length l.hands.items ≡ l.place;
  room : l.workers ≤ vec_capacity l.hands;
}
