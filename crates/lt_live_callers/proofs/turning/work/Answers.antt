-- One round after the other.
use Rattle.std.proofs.Common.{◌*◌, arith}
use Rattle.lt_live_callers.specs.declared.turning.TheConstants.{TIMES_A_ROUND}
use Rattle.lt_live_callers.proofs.GoingOn.{stations_itself, stations_join, desks_itself, desks_join}
use Rattle.lt_live_callers.proofs.turning.work.Goals as goal

pub loop-round-init : goal.loop-round-init
loop-round-init g c = record {
  stations = stations_itself c.args.stations.now.items;
  desks = desks_itself g.C.Caller.goes c.args.desks.now.items;
}

pub loop-round-preserved : goal.loop-round-preserved
loop-round-preserved g c =
    let made = c.loop-round.round * TIMES_A_ROUND in
    record {
      stations = stations_join made TIMES_A_ROUND _ c.args.stations.now.items c.loop-round.stations.items c.work_once.new.stations.items (omega arith)
          c.loop-round.invariant.stations c.work_once.ensures.stations;
      desks = desks_join g.C.Caller.goes made TIMES_A_ROUND _ c.args.desks.now.items c.all_over.new.desks.items c.work_once.new.desks.items (omega arith)
          (desks_join g.C.Caller.goes made 0 made c.args.desks.now.items c.loop-round.desks.items c.all_over.new.desks.items (omega arith)
          c.loop-round.invariant.desks c.all_over.ensures.desks) c.work_once.ensures.desks;
    }

pub returns-then-all_over-clause-desks : goal.returns-then-all_over-clause-desks
returns-then-all_over-clause-desks g c =
    let made = c.loop-round.round * TIMES_A_ROUND in
    desks_join g.C.Caller.goes made 0 made c.args.desks.now.items c.loop-round.desks.items c.all_over.new.desks.items (omega arith)
    c.loop-round.invariant.desks c.all_over.ensures.desks

pub returns-clause-desks : goal.returns-clause-desks
returns-clause-desks g c =
    desks_join g.C.Caller.goes (c.loop-round.round * TIMES_A_ROUND) 0 (c.args.rounds * TIMES_A_ROUND) c.args.desks.now.items c.loop-round.desks.items
    c.all_over-2.new.desks.items (omega arith) c.loop-round.invariant.desks c.all_over-2.ensures.desks
