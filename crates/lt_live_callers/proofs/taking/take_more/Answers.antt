-- Before and after the turn all sessions and their seats looked.
use Rattle.lt_live_callers.proofs.Stepped.{takes_turned, takes_more, less, all_taken}
use Rattle.lt_live_callers.proofs.taking.take_more.Goals as goal

pub look_all-requires-2 : goal.look_all-requires-2
look_all-requires-2 c =
    (takes_turned c.args.script.now c.in_ok-more.more c.look_all.new.stations.items c.turn_all.new.stations.items c.look_all.new.sessions.items
    c.look_all.ensures.all.asking c.in_ok-more.ensures).asking

pub returns-clause-takes : goal.returns-clause-takes
returns-clause-takes c =
    takes_more c.args.script.now c.in_ok-more.more c.args.stations.now.items c.look_all.new.stations.items c.turn_all.new.stations.items
    c.look_all-2.new.stations.items c.args.sessions.now.items c.look_all.new.sessions.items c.look_all-2.new.sessions.items
    c.look_all.ensures c.in_ok-more.ensures c.look_all-2.ensures

pub returns-clause-more : goal.returns-clause-more
returns-clause-more c =
    less c.args.script.now c.in_ok-more.more c.args.stations.now.items c.look_all.new.stations.items c.turn_all.new.stations.items
    c.look_all-2.new.stations.items c.args.sessions.now.items c.look_all.new.sessions.items c.look_all-2.new.sessions.items
    c.look_all.ensures c.in_ok-more.ensures c.look_all-2.ensures

pub returns-clause-none : goal.returns-clause-none
returns-clause-none c =
    all_taken c.args.script.now c.in_ok-more.more c.args.stations.now.items c.look_all.new.stations.items c.turn_all.new.stations.items
    c.look_all-2.new.stations.items c.args.sessions.now.items c.look_all.new.sessions.items c.look_all-2.new.sessions.items
    c.look_all.ensures c.in_ok-more.ensures c.look_all-2.ensures
