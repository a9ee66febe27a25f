use Rattle.lt_spec.proofs.FirstBad.{first_bad_is_exact}
use Rattle.lt_law_ordered.proofs.OrderedRest.{ordered_finish, ordered_release, ranked_finish, ranked_release, alone_finish, ranked_hold, ranked_wait}
use Rattle.lt_law_ordered.proofs.Releasing.{stuck_by_ring, stuck_by_ring_or_void}
use Rattle.lt_law_ordered.proofs.laws.law_ordered.Goals as goal

pub returns : goal.returns
returns c = record {
  finish = ordered_finish;
  release = ordered_release;
  ranked = ranked_finish;
  ranked_release = ranked_release;
  alone = alone_finish;
  hold = ranked_hold;
  wait = ranked_wait;
  deadlock = stuck_by_ring;
  deadlock_or_void = stuck_by_ring_or_void;
  first_bad = first_bad_is_exact;
}
