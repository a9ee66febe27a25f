-- So many rounds were made.
use Rattle.std.proofs.Common.{◌*◌}
use Rattle.lt_live_callers.specs.declared.turning.TheConstants.{TIMES_A_ROUND}
use Rattle.lt_live_callers.specs.Desks.{DesksGoOn, StationsGoOn}
use Rattle.lt_live_callers.proofs.turning.work.Given as goal

abbrev pub invariant-loop-round : goal.invariant-loop-round
invariant-loop-round g l = record {
  stations : StationsGoOn (l.round * TIMES_A_ROUND) l.initial.stations.items l.stations.items;
  desks : DesksGoOn g.C.Caller.goes (l.round * TIMES_A_ROUND) l.initial.desks.items l.desks.items;
}
