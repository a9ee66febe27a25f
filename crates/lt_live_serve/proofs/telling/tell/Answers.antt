use Rattle.lt_live_serve.proofs.Told.{hears_join}
use Rattle.lt_live_serve.proofs.telling.tell.Goals as goal

pub returns-in_err-tell_one-clause-hears : goal.returns-in_err-tell_one-clause-hears
returns-in_err-tell_one-clause-hears c =
    hears_join c.args.station.now c.loop.station c.tell_one.new.station c.args.caller.now c.loop.caller c.tell_one.new.caller c.loop.invariant c.tell_one.ensures.hears

pub returns-then-not-branch-clause-hears : goal.returns-then-not-branch-clause-hears
returns-then-not-branch-clause-hears c =
    hears_join c.args.station.now c.loop.station c.tell_one.new.station c.args.caller.now c.loop.caller c.tell_one.new.caller c.loop.invariant c.tell_one.ensures.hears

pub loop-preserved : goal.loop-preserved
loop-preserved c =
    hears_join c.args.station.now c.loop.station c.tell_one.new.station c.args.caller.now c.loop.caller c.tell_one.new.caller c.loop.invariant c.tell_one.ensures.hears
