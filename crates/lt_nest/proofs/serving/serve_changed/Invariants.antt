use Rattle.std.proofs.Common.{◌≡◌, ◌≤◌, ◌<◌, ◌+◌, ◌++◌, ℕ, length, take, drop, map, slice_index_or, deque_capacity}
use Rattle.lt_nest.specs.Locks.{no_set, serve_from}
use Rattle.lt_nest.specs.Kept.{NoneFree, total_load, waiting_asks, tallies_granted, after_change}
use Rattle.lt_nest.proofs.serving.serve_changed.Given as goal

abbrev pub invariant-loop-k : goal.invariant-loop-k
invariant-loop-k l = record {
  sets : take l.k l.sets ++ (serve_from l.k l.transactions (map (after_change l.transactions l.change) (drop l.k l.sets))).sets
      ≡ (serve_from 0 l.transactions (map (after_change l.transactions l.change) l.fn.sets)).sets;
  grants : l.grants.items ++ (serve_from l.k l.transactions (map (after_change l.transactions l.change) (drop l.k l.sets))).grants
      ≡ l.fn.grants.items ++ (serve_from 0 l.transactions (map (after_change l.transactions l.change) l.fn.sets)).grants;
  tallies : tallies_granted l.tallies.items (serve_from l.k l.transactions (map (after_change l.transactions l.change) (drop l.k l.sets))).grants
      ≡ tallies_granted l.fn.tallies.items (serve_from 0 l.transactions (map (after_change l.transactions l.change) l.fn.sets)).grants;
  none_free : (j : ℕ) → l.k ≤ j → j < length l.sets → NoneFree l.transactions (slice_index_or l.sets j no_set);
  count : total_load l.sets ≤ total_load l.fn.sets;
  room : length l.grants.items + waiting_asks l.sets ≤ deque_capacity l.grants;
  capacity : deque_capacity l.grants ≡ deque_capacity l.fn.grants;
}
