-- One caller after the other.
use Rattle.std.proofs.Common.{arith, ◌∙◌}
use Rattle.lt_live_serve.proofs.Told.{gather_one, gather_all}
use Rattle.lt_live_serve.proofs.telling.gather.Goals as goal

pub loop-place-preserved : goal.loop-place-preserved
loop-place-preserved c =
    gather_one c.args.callers.now c.loop-place.place c.index-callers-place.result c.loop-place.polled.items c.add_heard.new.polled.items
    (omega (arith, c.loop-place-test.true)) c.index-callers-place.is c.loop-place.invariant c.in_ok-add_heard.ensures

pub returns : goal.returns
returns c =
    c.loop-place.invariant
    ∙ gather_all c.args.callers.now c.loop-place.place (omega (arith, c.loop-place.auto.place-end)) (omega (arith, c.loop-place-test.false))
