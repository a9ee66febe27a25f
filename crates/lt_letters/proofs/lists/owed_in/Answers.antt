use Rattle.std.proofs.lemmas.Result.{err_from_is_err_and}
use Rattle.lt_letters.specs.Reading.{many_from, owed_from}
use Rattle.lt_letters.proofs.Loop.{goes_on, stops, is_done}
use Rattle.lt_letters.proofs.lists.owed_in.Goals as goal

pub returns-in_err-one : goal.returns-in_err-one
returns-in_err-one c =
    let p = err_from_is_err_and c.from_residual.result c.from_residual.ensures.1 in
    rw (p.1, p.2) (stops owed_from c.in_err-one.field-0.0 c.loop.owed.items c.args.count c.loop.counter c.loop.rest.now (many_from owed_from c.args.count c.args.bytes.now) c.loop-test.true c.in_err-one.ensures c.loop.invariant)

pub loop-preserved : goal.loop-preserved
loop-preserved c =
    rw c.in_ok-push.ensures.items
    (goes_on owed_from c.loop.owed.items c.args.count c.loop.counter c.loop.rest.now c.in_ok-one.one c.in_ok-one.after.now (many_from owed_from c.args.count c.args.bytes.now) c.loop-test.true c.in_ok-one.ensures c.loop.invariant)

pub returns : goal.returns
returns c = is_done owed_from c.loop.owed.items c.args.count c.loop.counter c.loop.rest.now (many_from owed_from c.args.count c.args.bytes.now) c.loop-test.false c.loop.invariant
