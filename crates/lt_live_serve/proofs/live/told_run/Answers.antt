-- The runners are those of before, and what was polled is told of the callers' vector.
use Rattle.std.proofs.Common.{◌≡◌, List, length, subst, sym}
use Rattle.lt_lists.specs.Below.{gather_below}
use Rattle.lt_runner.specs.declared.parts.Parts.{Parts}
use Rattle.lt_threads.specs.Meeting.{IsCrew}
use Rattle.lt_live_serve.specs.declared.callers.Caller.{Caller}
use Rattle.lt_live_serve.specs.Apart.{IsRunOf}
use Rattle.lt_live_serve.specs.Completing.{heard_at}
use Rattle.lt_live_serve.proofs.Heard.{polled_of}
use Rattle.lt_live_serve.proofs.live.told_run.Goals as goal

pub run_of-requires-clause-crew : goal.run_of-requires-clause-crew
run_of-requires-clause-crew c =
    subst (λ (runners : List Parts). IsCrew c.args.script.now runners) (sym c.in_ok-tell_all.ensures.runners) c.requires.crew

pub run_of-requires-clause-all : goal.run_of-requires-clause-all
run_of-requires-clause-all c = c.in_ok-tell_all.ensures.serving.have_all

pub returns-clause-run : goal.returns-clause-run
returns-clause-run c =
    subst (λ (runners : List Parts). IsRunOf c.args.script.now runners c.in_ok-run.run'.entries) c.in_ok-tell_all.ensures.runners c.in_ok-run.ensures

pub returns-clause-polled : goal.returns-clause-polled
returns-clause-polled c =
    let polled = c.in_ok-polled.polled.items in
    polled_of c.args.script.now c.tell_all.new.stations.items c.tell_all.new.callers.items polled c.in_ok-run.run'.entries c.requires.kept
    c.in_ok-tell_all.ensures.serving c.in_ok-tell_all.ensures.heard
    (subst (λ (callers : List Caller). polled ≡ gather_below (length callers) (heard_at callers)) c.deref.ensures.value c.in_ok-polled.ensures)
    c.in_ok-run.ensures
