-- After a command more was submitted, and after a round.
use Rattle.std.proofs.Common.{arith}
use Rattle.lt_live_serve.proofs.Lasting.{less_left, same_stations, same_callers, stations_join, callers_join}
use Rattle.lt_live_serve.proofs.rounds.rounds_of.Goals as goal

pub loop-stations-init : goal.loop-stations-init
loop-stations-init g c = record { stations = same_stations c.args.stations.now; callers = same_callers c.args.callers.now }

pub loop-stations-smaller : goal.loop-stations-smaller
loop-stations-smaller g c =
    omega (arith, less_left c.submit_one.new.callers c.round.new.callers c.round.ensures.callers, c.submit_one.ensures.one c.loop-stations-test.true)

pub loop-stations-preserved : goal.loop-stations-preserved
loop-stations-preserved g c =
    let before = c.loop-stations.invariant in
    record {
      stations = stations_join c.args.stations.now c.loop-stations.stations c.round.new.stations before.stations c.round.ensures.stations;
      callers = callers_join c.args.callers.now c.submit_one.new.callers c.round.new.callers
          (callers_join c.args.callers.now c.loop-stations.callers c.submit_one.new.callers before.callers c.submit_one.ensures.callers) c.round.ensures.callers;
    }

pub returns-clause-callers : goal.returns-clause-callers
returns-clause-callers g c =
    callers_join c.args.callers.now c.loop-stations.callers c.submit_one.new.callers c.loop-stations.invariant.callers c.submit_one.ensures.callers
