use Rattle.std.proofs.lemmas.Result.{err_from_is_err_and}
use Rattle.lt_letters.specs.Reading.{owed_from}
use Rattle.lt_letters.proofs.Loop.{past_next, past_fails, past_all}
use Rattle.lt_letters.proofs.ends.owed_end.Goals as goal

pub returns-in_err-_owed : goal.returns-in_err-_owed
returns-in_err-_owed c =
    let p = err_from_is_err_and c.from_residual.result c.from_residual.ensures.1 in
    rw (p.1, p.2)
    (past_fails owed_from c.in_err-_owed.field-0.0 c.args.count c.loop.counter c.args.bytes.now c.loop.rest.now c.loop-test.true c.in_err-_owed.ensures c.loop.invariant)

pub loop-preserved : goal.loop-preserved
loop-preserved c =
    past_next owed_from c.args.count c.loop.counter c.args.bytes.now c.loop.rest.now c.in_ok-_owed._owed c.in_ok-_owed.after.now c.loop-test.true c.in_ok-_owed.ensures c.loop.invariant

pub returns : goal.returns
returns c = past_all owed_from c.args.count c.loop.counter c.args.bytes.now c.loop.rest.now c.loop-test.false c.loop.invariant
