-- One reply more.
use Rattle.std.proofs.Common.{arith, ◌∙◌}
use Rattle.lt_live_serve.proofs.Told.{first_marked, pushed_marked, all_marked}
use Rattle.lt_live_serve.proofs.telling.add_heard.Goals as goal

pub loop-place-init : goal.loop-place-init
loop-place-init c = first_marked c.args.caller.now c.args.polled.now.items

pub loop-place-preserved : goal.loop-place-preserved
loop-place-preserved c =
    pushed_marked c.args.caller.now c.args.polled.now.items c.loop-place.polled.items c.push.new.self.items c.loop-place.place c.client-client.result
    c.index.result.now (omega (arith, c.loop-place-test.true, c.args.caller.now.heard.ok.0)) c.client-client.ensures c.index.ensures
    c.loop-place.invariant c.in_ok-push.ensures.items

pub returns : goal.returns
returns c =
    c.loop-place.invariant
    ∙ all_marked c.args.caller.now c.args.polled.now.items c.loop-place.place
    (omega (arith, c.loop-place-test.false, c.args.caller.now.heard.ok.0))
