use Rattle.std.proofs.Common.{◌∷◌, [], arith, length-append}
use Rattle.std.proofs.lemmas.Result.{err_from_is_err_and}
use Rattle.lt_letters.specs.Reading.{many_from, stamp_from}
use Rattle.lt_letters.proofs.Loop.{goes_on, stops, is_done}
use Rattle.lt_letters.proofs.lists.stamps_in.Goals as goal

pub returns-in_err-stamp : goal.returns-in_err-stamp
returns-in_err-stamp c =
    let p = err_from_is_err_and c.from_residual.result c.from_residual.ensures.1 in
    rw (p.1, p.2) (stops stamp_from c.in_err-stamp.field-0.0 c.loop.stamps c.args.count c.loop.counter c.loop.rest.now (many_from stamp_from c.args.count c.args.bytes.now) c.loop-test.true c.in_err-stamp.ensures c.loop.invariant.1)

pub loop-preserved : goal.loop-preserved
loop-preserved c =
    let x = c.in_ok-stamp.stamp in
    rw c.push.ensures (
      omega (arith, length-append c.loop.stamps (x ∷ []), c.loop.invariant.0),
      goes_on stamp_from c.loop.stamps c.args.count c.loop.counter c.loop.rest.now x c.in_ok-stamp.after.now (many_from stamp_from c.args.count c.args.bytes.now) c.loop-test.true c.in_ok-stamp.ensures c.loop.invariant.1,
    )

pub returns : goal.returns
returns c = is_done stamp_from c.loop.stamps c.args.count c.loop.counter c.loop.rest.now (many_from stamp_from c.args.count c.args.bytes.now) c.loop-test.false c.loop.invariant.1
