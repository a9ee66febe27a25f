-- Stations and desks went on, and what they came to is what the callers made.
use Rattle.std.proofs.Common.{◌*◌, subst}
use Rattle.lt_modes.specs.Script.{ScriptData}
use Rattle.lt_live_callers.specs.declared.turning.TheConstants.{TIMES_A_ROUND}
use Rattle.lt_live_callers.specs.Served.{CallersAreServed}
use Rattle.lt_live_callers.proofs.GoingOn.{serving_lasts, are_asking}
use Rattle.lt_live_callers.proofs.Made.{are_served}
use Rattle.lt_live_callers.proofs.serving.serve.Goals as goal

pub end-requires-clause-asking : goal.end-requires-clause-asking
end-requires-clause-asking g c κs within =
    are_asking g.C.Caller.goes (c.work-made.result * TIMES_A_ROUND) c.in_ok-bare.bare c.args.limit c.args.callers.items c.work-made.new.stations.items c.work-made.new.desks.items
    (serving_lasts g.C.Caller.goes c.law_live_lasts.ensures.last (c.work-made.result * TIMES_A_ROUND) (c.work-made.result * TIMES_A_ROUND) c.in_ok-bare.bare c.args.limit
    c.args.callers.items c.in_ok-stations.stations.items c.work-made.new.stations.items c.in_ok-stations.desks.items c.work-made.new.desks.items
    c.in_ok-stations.ensures.serving c.work-made.ensures.stations c.work-made.ensures.desks)

pub end-requires-clause-limits : goal.end-requires-clause-limits
end-requires-clause-limits g c κs within =
    (serving_lasts g.C.Caller.goes c.law_live_lasts.ensures.last (c.work-made.result * TIMES_A_ROUND) (c.work-made.result * TIMES_A_ROUND) c.in_ok-bare.bare c.args.limit
    c.args.callers.items c.in_ok-stations.stations.items c.work-made.new.stations.items c.in_ok-stations.desks.items c.work-made.new.desks.items
    c.in_ok-stations.ensures.serving c.work-made.ensures.stations c.work-made.ensures.desks).limits

pub end-requires-clause-all : goal.end-requires-clause-all
end-requires-clause-all g c κs within =
    (serving_lasts g.C.Caller.goes c.law_live_lasts.ensures.last (c.work-made.result * TIMES_A_ROUND) (c.work-made.result * TIMES_A_ROUND) c.in_ok-bare.bare c.args.limit
    c.args.callers.items c.in_ok-stations.stations.items c.work-made.new.stations.items c.in_ok-stations.desks.items c.work-made.new.desks.items
    c.in_ok-stations.ensures.serving c.work-made.ensures.stations c.work-made.ensures.desks).all

pub returns : goal.returns
returns g c =
    let n = c.work-made.result * TIMES_A_ROUND in
    let serving =
    serving_lasts g.C.Caller.goes c.law_live_lasts.ensures.last n n c.in_ok-bare.bare c.args.limit
    c.args.callers.items c.in_ok-stations.stations.items c.work-made.new.stations.items c.in_ok-stations.desks.items c.work-made.new.desks.items
    c.in_ok-stations.ensures.serving c.work-made.ensures.stations c.work-made.ensures.desks in
    subst (λ (first : ScriptData). CallersAreServed g.C.Caller.goes g.C.Caller.says c.args.rounds (c.in_ok-served.served.rounds * TIMES_A_ROUND) c.args.limit first c.args.callers.items c.in_ok-served.served) c.in_ok-bare.ensures
    (are_served g.C.Caller.goes g.C.Caller.says (λ k. k * TIMES_A_ROUND) c.args.rounds c.work-made.result c.in_ok-bare.bare c.args.limit c.args.callers.items
    c.in_ok-stations.stations.items c.work-made.new.stations.items c.work-made.new.desks.items c.in_ok-served.served
    c.in_ok-stations.ensures.opened c.work-made.ensures.stations serving c.work-made.ensures.rounds c.in_ok-served.ensures.ended c.in_ok-served.ensures.rounds)
