-- The loop that joins badges.
use Rattle.std.proofs.Common.{length, vec_len}
use Rattle.lt_threads.specs.Workers.{AreFree, LeadsPool}
use Rattle.lt_threads.proofs.sharing.dismiss.Given as goal

abbrev pub invariant-loop-hand : goal.invariant-loop-hand
invariant-loop-hand l = record {
  free : AreFree l.pool l.hands.items;
  first : LeadsPool l.pool (length l.hands.items) l.first;
}

abbrev pub decreases-loop-hand : goal.decreases-loop-hand
decreases-loop-hand l = vec_len l.hands
