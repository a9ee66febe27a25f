-- One caller after the other.
use Rattle.std.proofs.Common.{arith}
use Rattle.lt_live.proofs.SeatLists.{alike_len}
use Rattle.lt_live_serve.specs.Completing.{Calls}
use Rattle.lt_live_serve.proofs.Looked.{none_look, next_look, all_look}
use Rattle.lt_live_serve.proofs.completing.look_all.Goals as goal

pub loop-client-init : goal.loop-client-init
loop-client-init c = none_look c.args._script.now c.args.stations.now.items c.args.callers.now.items c.requires

pub loop-client-preserved : goal.loop-client-preserved
loop-client-preserved c =
    next_look c.args._script.now c.loop-client.client c.args.stations.now.items c.loop-client.stations.items c.look_at.new.stations.items
    c.args.callers.now.items c.loop-client.callers.items c.look_at.new.callers.items c.loop-client.invariant c.look_at.ensures

pub look_at-requires-clause-inside : goal.look_at-requires-clause-inside
look_at-requires-clause-inside c =
    omega (arith, c.loop-client-test.true, alike_len Calls c.args.callers.now.items c.loop-client.callers.items c.loop-client.invariant.calls)

pub returns : goal.returns
returns c =
    all_look c.args._script.now c.loop-client.client c.args.stations.now.items c.loop-client.stations.items c.args.callers.now.items c.loop-client.callers.items
    (omega (arith, c.loop-client-test.false, alike_len Calls c.args.callers.now.items c.loop-client.callers.items c.loop-client.invariant.calls))
    c.loop-client.invariant
