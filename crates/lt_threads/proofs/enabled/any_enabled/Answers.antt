-- The crew as it was, what each runner shows, and the first that shows a move.
use Rattle.std.proofs.Common.{List, length, ap, subst, arith}
use Rattle.lt_runner.specs.declared.parts.Parts.{Parts}
use Rattle.lt_runner.specs.Kept.{AsSeen}
use Rattle.lt_threads.specs.Meeting.{AreKept, IsFirstMove}
use Rattle.lt_runner.proofs.KeptLemmas.{seen_join}
use Rattle.lt_threads.proofs.Each.{each_join, each_len}
use Rattle.lt_threads.proofs.Logs.{crew_linked, crew_seen, all_show, least_is}
use Rattle.lt_threads.proofs.enabled.any_enabled.Goals as goal

pub meet_all-requires : goal.meet_all-requires
meet_all-requires c = crew_linked c.args.script.now c.args.runners.now.items c.requires

pub first_to_move-requires : goal.first_to_move-requires
first_to_move-requires c =
    let seen = each_join AsSeen seen_join c.args.runners.now.items c.meet_all.new.runners.items c.fetch_all.new.runners.items c.meet_all.ensures.seen c.fetch_all.ensures.seen in
    let same = each_len AsSeen c.args.runners.now.items c.fetch_all.new.runners.items seen in
    omega (arith, c.nodes.ensures.nodes, c.requires.count, same, ap (λ (rs : List Parts). length rs) c.deref-2.ensures.value)

pub returns-clause-seen : goal.returns-clause-seen
returns-clause-seen c =
    each_join AsSeen seen_join c.args.runners.now.items c.meet_all.new.runners.items c.fetch_all.new.runners.items c.meet_all.ensures.seen c.fetch_all.ensures.seen

pub returns-clause-crew : goal.returns-clause-crew
returns-clause-crew c =
    crew_seen c.args.script.now c.args.runners.now.items c.meet_all.new.runners.items c.fetch_all.new.runners.items c.meet_all.ensures.seen c.fetch_all.ensures.seen c.requires

pub returns-clause-all : goal.returns-clause-all
returns-clause-all c =
    let crew = crew_seen c.args.script.now c.args.runners.now.items c.meet_all.new.runners.items c.fetch_all.new.runners.items c.meet_all.ensures.seen c.fetch_all.ensures.seen c.requires in
    all_show c.args.script.now c.fetch_all.new.runners.items _ crew (subst (λ (rs : List Parts). AreKept rs) c.deref.ensures.value c.all_kept.ensures)
    c.fetch_all.ensures.met c.fetch_all.ensures.fetched (omega (arith, c.fetch_all.new.runners.ok.0))

pub returns-clause-least : goal.returns-clause-least
returns-clause-least c =
    let crew = crew_seen c.args.script.now c.args.runners.now.items c.meet_all.new.runners.items c.fetch_all.new.runners.items c.meet_all.ensures.seen c.fetch_all.ensures.seen c.requires in
    least_is c.law_can_move.ensures.rest c.args.script.now c.fetch_all.new.runners.items c.first_to_move.result crew
    (all_show c.args.script.now c.fetch_all.new.runners.items _ crew (subst (λ (rs : List Parts). AreKept rs) c.deref.ensures.value c.all_kept.ensures)
    c.fetch_all.ensures.met c.fetch_all.ensures.fetched (omega (arith, c.fetch_all.new.runners.ok.0)))
    (subst (λ (rs : List Parts). IsFirstMove rs c.first_to_move.result) c.deref-2.ensures.value c.first_to_move.ensures)
