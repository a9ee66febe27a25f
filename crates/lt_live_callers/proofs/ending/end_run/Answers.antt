-- The runners are those of the script, and made the run that the sessions were served in.
use Rattle.std.proofs.Common.{List, sym, subst, ◌∙◌}
use Rattle.lt_runner.specs.declared.parts.Parts.{Parts}
use Rattle.lt_threads.specs.Meeting.{IsJoined}
use Rattle.lt_threads.proofs.Whole.{all_grew}
use Rattle.lt_live.proofs.Finished.{are_shares, never_many}
use Rattle.lt_live_callers.specs.declared.ending.LiveEnding.{LiveEnding}
use Rattle.lt_live_callers.specs.Served.{CallersEndSo}
use Rattle.lt_live_callers.proofs.Grown.{settled_have_all, serves, ends, keeps, made_by, all_commands}
use Rattle.lt_live_callers.proofs.ending.end_run.Goals as goal

pub settle_all-requires : goal.settle_all-requires
settle_all-requires g c = c.requires.live

pub join-requires-clause-shares : goal.join-requires-clause-shares
join-requires-clause-shares g c =
    are_shares c.args.stations.items c.settle_all.new.stations.items c.args.sessions.items c.settle_all.new.sessions.items c.deref.result.now
    c.requires.live c.settle_all.ensures.settled (c.deref.ensures.value ∙ c.take_runners-runners.ensures)

pub join-requires-clause-few : goal.join-requires-clause-few
join-requires-clause-few g c =
    never_many c.args.stations.items c.settle_all.new.stations.items c.args.sessions.items c.settle_all.new.sessions.items c.deref.result.now
    c.requires.live c.settle_all.ensures.settled (c.deref.ensures.value ∙ c.take_runners-runners.ensures) c.requires.shares

pub join-requires-clause-all : goal.join-requires-clause-all
join-requires-clause-all g c =
    settled_have_all c.args.stations.items c.settle_all.new.stations.items c.args.sessions.items c.settle_all.new.sessions.items c.deref.result.now
    c.requires.live c.settle_all.ensures.settled (c.deref.ensures.value ∙ c.take_runners-runners.ensures) c.requires.all

pub run_crew-requires-clause-crew : goal.run_crew-requires-clause-crew
run_crew-requires-clause-crew g c κs within =
    (subst (λ (rs : List Parts). IsJoined rs c.in_ok-script.script) c.deref.ensures.value c.in_ok-script.ensures).crew

pub gather_logs-requires-clause-crew : goal.gather_logs-requires-clause-crew
gather_logs-requires-clause-crew g c = c.in_ok-runners-2.ensures.crew

pub gather_logs-requires-clause-all : goal.gather_logs-requires-clause-all
gather_logs-requires-clause-all g c =
    let runners = c.take_runners-runners.result.items in
    all_grew runners c.in_ok-runners-2.runners.items c.in_ok-runners-2.ensures.grew
    (settled_have_all c.args.stations.items c.settle_all.new.stations.items c.args.sessions.items c.settle_all.new.sessions.items runners
    c.requires.live c.settle_all.ensures.settled c.take_runners-runners.ensures c.requires.all)

pub returns-clause-served : goal.returns-clause-served
returns-clause-served g c =
    let runners = c.take_runners-runners.result.items in
    serves c.args.stations.items c.settle_all.new.stations.items c.args.sessions.items c.settle_all.new.sessions.items runners c.in_ok-runners-2.runners.items
    c.in_ok-script.script c.in_ok-runners-2.ending c.in_ok-logs.logs.items c.in_ok-run.run'.entries c.settle_all.ensures.settled c.take_runners-runners.ensures
    (subst (λ (rs : List Parts). IsJoined rs c.in_ok-script.script) c.deref.ensures.value c.in_ok-script.ensures) c.in_ok-runners-2.ensures
    c.in_ok-logs.ensures c.in_ok-run.ensures c.law_live_lasts.ensures.last

pub returns-clause-few_commands : goal.returns-clause-few_commands
returns-clause-few_commands g c = c.in_ok-script.ensures.few_commands

pub returns-clause-ends : goal.returns-clause-ends
returns-clause-ends g c =
    let runners = c.take_runners-runners.result.items in
    subst (λ (e : LiveEnding). CallersEndSo e c.in_ok-script.script c.in_ok-run.run'.entries) (sym c.live_ending.ensures)
    (ends c.args.stations.items c.settle_all.new.stations.items c.args.sessions.items c.settle_all.new.sessions.items runners c.in_ok-runners-2.runners.items
    c.in_ok-script.script c.in_ok-runners-2.ending c.in_ok-logs.logs.items c.in_ok-run.run'.entries c.settle_all.ensures.settled c.take_runners-runners.ensures
    (subst (λ (rs : List Parts). IsJoined rs c.in_ok-script.script) c.deref.ensures.value c.in_ok-script.ensures) c.in_ok-runners-2.ensures
    c.in_ok-logs.ensures c.in_ok-run.ensures)

pub returns-clause-within : goal.returns-clause-within
returns-clause-within g c =
    let runners = c.take_runners-runners.result.items in
    (keeps c.args.stations.items c.settle_all.new.stations.items c.args.sessions.items c.settle_all.new.sessions.items runners c.in_ok-runners-2.runners.items
    c.in_ok-script.script c.in_ok-runners-2.ending c.in_ok-logs.logs.items c.in_ok-run.run'.entries c.settle_all.ensures.settled c.take_runners-runners.ensures
    (subst (λ (rs : List Parts). IsJoined rs c.in_ok-script.script) c.deref.ensures.value c.in_ok-script.ensures) c.in_ok-runners-2.ensures
    c.in_ok-logs.ensures c.in_ok-run.ensures c.law_can_move.ensures.rest c.args._limit
    (c.settle_all.ensures.settled c.requires.live.0 c.requires.live.1).runners c.requires.limits).within

pub returns-clause-far : goal.returns-clause-far
returns-clause-far g c =
    let runners = c.take_runners-runners.result.items in
    (keeps c.args.stations.items c.settle_all.new.stations.items c.args.sessions.items c.settle_all.new.sessions.items runners c.in_ok-runners-2.runners.items
    c.in_ok-script.script c.in_ok-runners-2.ending c.in_ok-logs.logs.items c.in_ok-run.run'.entries c.settle_all.ensures.settled c.take_runners-runners.ensures
    (subst (λ (rs : List Parts). IsJoined rs c.in_ok-script.script) c.deref.ensures.value c.in_ok-script.ensures) c.in_ok-runners-2.ensures
    c.in_ok-logs.ensures c.in_ok-run.ensures c.law_can_move.ensures.rest c.args._limit
    (c.settle_all.ensures.settled c.requires.live.0 c.requires.live.1).runners c.requires.limits).far

pub returns-clause-made : goal.returns-clause-made
returns-clause-made g c =
    let runners = c.take_runners-runners.result.items in
    made_by c.args.stations.items c.settle_all.new.stations.items c.args.sessions.items c.settle_all.new.sessions.items runners c.in_ok-runners-2.runners.items
    c.in_ok-script.script c.in_ok-runners-2.ending c.in_ok-logs.logs.items c.in_ok-run.run'.entries c.settle_all.ensures.settled c.take_runners-runners.ensures
    (subst (λ (rs : List Parts). IsJoined rs c.in_ok-script.script) c.deref.ensures.value c.in_ok-script.ensures) c.in_ok-runners-2.ensures
    c.in_ok-logs.ensures c.in_ok-run.ensures (c.settle_all.ensures.settled c.requires.live.0 c.requires.live.1).runners

pub returns-clause-all : goal.returns-clause-all
returns-clause-all g c =
    let runners = c.take_runners-runners.result.items in
    all_commands c.args.stations.items c.settle_all.new.stations.items c.args.sessions.items c.settle_all.new.sessions.items runners c.in_ok-runners-2.runners.items
    c.in_ok-script.script c.in_ok-runners-2.ending c.in_ok-logs.logs.items c.in_ok-run.run'.entries c.settle_all.ensures.settled c.take_runners-runners.ensures
    (subst (λ (rs : List Parts). IsJoined rs c.in_ok-script.script) c.deref.ensures.value c.in_ok-script.ensures) c.in_ok-runners-2.ensures
    c.in_ok-logs.ensures c.in_ok-run.ensures
