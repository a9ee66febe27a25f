-- The callers before were told.
use Rattle.std.proofs.Common.{◌≡◌, length, arith}
use Rattle.lt_live_serve.proofs.Told.{same_number, none_told, next_told, all_told}
use Rattle.lt_live_serve.proofs.telling.tell_all.Goals as goal

pub loop-client-init : goal.loop-client-init
loop-client-init c = none_told c.args._script.now c.args.stations.now.items c.args.callers.now.items c.requires

pub loop-client-preserved : goal.loop-client-preserved
loop-client-preserved c =
    next_told c.args._script.now c.loop-client.client c.args.stations.now.items c.loop-client.stations.items c.tell_at.new.stations.items
    c.loop-client.callers.items c.tell_at.new.callers.items c.loop-client.invariant c.in_ok-tell_at.ensures

pub tell_at-requires-clause-inside : goal.tell_at-requires-clause-inside
tell_at-requires-clause-inside c =
    let same : length c.loop-client.callers.items ≡ length c.args.callers.now.items =
    same_number c.args._script.now c.args.stations.now.items c.loop-client.stations.items c.args.callers.now.items c.loop-client.callers.items c.requires
    c.loop-client.invariant.serving in
    omega (arith, c.loop-client-test.true, same)

pub tell_at-requires-clause-serving : goal.tell_at-requires-clause-serving
tell_at-requires-clause-serving c = c.loop-client.invariant.serving

pub returns-clause-serving : goal.returns-clause-serving
returns-clause-serving c = c.loop-client.invariant.serving

pub returns-clause-runners : goal.returns-clause-runners
returns-clause-runners c = c.loop-client.invariant.runners

pub returns-clause-heard : goal.returns-clause-heard
returns-clause-heard c =
    let same : length c.loop-client.callers.items ≡ length c.args.callers.now.items =
    same_number c.args._script.now c.args.stations.now.items c.loop-client.stations.items c.args.callers.now.items c.loop-client.callers.items c.requires
    c.loop-client.invariant.serving in
    all_told c.args._script.now c.loop-client.client c.args.stations.now.items c.loop-client.stations.items c.loop-client.callers.items
    (omega (arith, c.loop-client-test.false, same)) c.loop-client.invariant
