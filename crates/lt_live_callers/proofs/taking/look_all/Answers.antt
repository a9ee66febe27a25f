-- One session after the other.
use Rattle.std.proofs.Common.{arith}
use Rattle.lt_live.specs.Live.{SaysSame}
use Rattle.lt_live.proofs.SeatLists.{alike_len}
use Rattle.lt_live_callers.proofs.Looked.{none_look, next_look, all_look}
use Rattle.lt_live_callers.proofs.taking.look_all.Goals as goal

pub loop-client-init : goal.loop-client-init
loop-client-init c = none_look c.args._script.now c.args.stations.now.items c.args.sessions.now.items c.requires

pub loop-client-preserved : goal.loop-client-preserved
loop-client-preserved c =
    next_look c.args._script.now c.loop-client.client c.args.stations.now.items c.loop-client.stations.items c.look_at.new.stations.items
    c.args.sessions.now.items c.loop-client.sessions.items c.look_at.new.sessions.items c.loop-client.invariant c.look_at.ensures

pub look_at-requires-clause-inside : goal.look_at-requires-clause-inside
look_at-requires-clause-inside c =
    omega (arith, c.loop-client-test.true, alike_len SaysSame c.args.sessions.now.items c.loop-client.sessions.items c.loop-client.invariant.all.says)

pub look_at-requires-clause-asking : goal.look_at-requires-clause-asking
look_at-requires-clause-asking c = c.loop-client.invariant.all.asking

pub returns : goal.returns
returns c =
    all_look c.args._script.now c.loop-client.client c.args.stations.now.items c.loop-client.stations.items c.args.sessions.now.items c.loop-client.sessions.items
    (omega (arith, c.loop-client-test.false, alike_len SaysSame c.args.sessions.now.items c.loop-client.sessions.items c.loop-client.invariant.all.says))
    c.loop-client.invariant
