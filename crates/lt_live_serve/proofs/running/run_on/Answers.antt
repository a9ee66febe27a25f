-- The stations are those of before, but that their runners made moves.
use Rattle.std.proofs.Common.{◌≡◌, List, length, subst, arith}
use Rattle.lt_runner.specs.declared.parts.Parts.{Parts}
use Rattle.lt_threads.specs.Meeting.{IsCrew}
use Rattle.lt_live.specs.Stations.{StationData}
use Rattle.lt_live_serve.specs.Completing.{AreStationsKept}
use Rattle.lt_live_serve.proofs.Parted.{crew_of, go_together, serving_moved, moved_on, same_length}
use Rattle.lt_live_serve.proofs.running.run_on.Goals as goal

pub run_crew-requires-clause-crew : goal.run_crew-requires-clause-crew
run_crew-requires-clause-crew g c κs within =
    subst (λ (runners : List Parts). IsCrew c.args.script.now runners) c.take_apart-runners.ensures.runners_are
    (crew_of c.args.script.now c.args.stations.items c.args._callers.now c.requires.kept c.requires.serving c.requires.complete)

pub put_together-requires-clause-together : goal.put_together-requires-clause-together
put_together-requires-clause-together g c =
    go_together c.args.stations.items c.take_apart-runners.result.0.items c.in_ok-runners-2.runners.items c.take_apart-runners.result.1.items
    (subst (λ (stations : List StationData). AreStationsKept stations) c.deref.ensures.value c.are_kept.ensures) c.take_apart-runners.ensures c.in_ok-runners-2.ensures.grew

pub put_together-requires-clause-room : goal.put_together-requires-clause-room
put_together-requires-clause-room g c =
    let same : length c.in_ok-runners-2.runners.items ≡ length c.args.stations.items =
    same_length c.args.stations.items c.take_apart-runners.result.0.items c.in_ok-runners-2.runners.items c.take_apart-runners.result.1.items
    c.take_apart-runners.ensures c.in_ok-runners-2.ensures.grew in
    omega (arith, same, c.in_ok-runners.ensures.stations.1, c.len.ensures, c.args.stations.ok.0)

pub returns-clause-serving : goal.returns-clause-serving
returns-clause-serving g c =
    serving_moved c.args.stations.items c.put_together.result.items c.take_apart-runners.result.0.items c.in_ok-runners-2.runners.items
    c.take_apart-runners.result.1.items c.take_apart-runners.ensures c.put_together.ensures c.in_ok-runners-2.ensures.grew c.args.script.now c.args._callers.now
    c.requires.serving

pub returns-clause-moved : goal.returns-clause-moved
returns-clause-moved g c =
    moved_on c.args.script.now c.in_ok-runners-2.ending c.args.stations.items c.put_together.result.items c.take_apart-runners.result.0.items
    c.in_ok-runners-2.runners.items c.take_apart-runners.result.1.items c.take_apart-runners.ensures c.put_together.ensures c.in_ok-runners-2.ensures
