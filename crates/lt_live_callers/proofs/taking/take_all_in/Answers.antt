-- One turn of all stations after the other.
use Rattle.lt_live_callers.proofs.Lasting.{takes_none, takes_join}
use Rattle.lt_live_callers.proofs.taking.take_all_in.Goals as goal

pub loop-init : goal.loop-init
loop-init c = takes_none c.args.script.now c.args.stations.now.items c.args.sessions.now.items c.requires

pub take_more-requires : goal.take_more-requires
take_more-requires c = c.loop.invariant.asking

pub loop-preserved : goal.loop-preserved
loop-preserved c =
    takes_join c.args.script.now c.args.stations.now.items c.loop.stations.items c.take_more.new.stations.items
    c.args.sessions.now.items c.loop.sessions.items c.take_more.new.sessions.items c.loop.invariant c.in_ok-take_more.ensures.takes

pub returns-then-not-branch-clause-takes : goal.returns-then-not-branch-clause-takes
returns-then-not-branch-clause-takes c =
    takes_join c.args.script.now c.args.stations.now.items c.loop.stations.items c.take_more.new.stations.items
    c.args.sessions.now.items c.loop.sessions.items c.take_more.new.sessions.items c.loop.invariant c.in_ok-take_more.ensures.takes
