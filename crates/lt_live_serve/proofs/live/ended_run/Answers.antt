-- The run of the stations that moved on.
use Rattle.std.proofs.Common.{List, map, subst, sym}
use Rattle.lt_live.specs.Stations.{runner_of}
use Rattle.lt_live_serve.specs.declared.callers.Caller.{Caller}
use Rattle.lt_live_serve.specs.Completing.{AreServing}
use Rattle.lt_live_serve.proofs.Heard.{live_run}
use Rattle.lt_live_serve.proofs.live.ended_run.Goals as goal

pub run_on-requires-clause-serving : goal.run_on-requires-clause-serving
run_on-requires-clause-serving g c κs within =
    subst (λ (callers : List Caller). AreServing c.args.script.now c.in_ok-stations.stations.items callers) (sym c.deref.ensures.value)
    c.in_ok-stations.ensures.serving

pub told_run-requires-clause-serving : goal.told_run-requires-clause-serving
told_run-requires-clause-serving g c =
    subst (λ (callers : List Caller). AreServing c.args.script.now c.in_ok-stations-2.stations.items callers) c.deref.ensures.value
    c.in_ok-stations-2.ensures.serving

pub told_run-requires-clause-crew : goal.told_run-requires-clause-crew
told_run-requires-clause-crew g c = c.in_ok-stations-2.ensures.moved.crew

pub returns : goal.returns
returns g c =
    live_run c.law_promised.ensures c.law_ordered.ensures.finish c.law_can_move.ensures.rest c.args.script.now c.in_ok-stations-2.ending
    (map runner_of c.in_ok-stations.stations.items) c.in_ok-stations-2.stations.items _ c.in_ok-run.polled.items
    c.in_ok-run.run'.entries c.requires.kept c.requires.short c.in_ok-stations-2.ensures.moved c.in_ok-stations-2.ensures.serving c.in_ok-run.ensures.polled
    c.in_ok-run.ensures.run
