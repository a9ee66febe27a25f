use Rattle.std.proofs.lemmas.Result.{err_from_is_err_and}
use Rattle.lt_letters.specs.Reading.{entry_from}
use Rattle.lt_letters.proofs.Loop.{past_next, past_fails, past_all}
use Rattle.lt_letters.proofs.ends.each_entry_end.Goals as goal

pub returns-in_err-rest : goal.returns-in_err-rest
returns-in_err-rest c =
    let p = err_from_is_err_and c.from_residual.result c.from_residual.ensures.1 in
    rw (p.1, p.2)
    (past_fails entry_from c.in_err-rest.field-0.0 c.args.nodes c.loop.counter c.args.bytes.now c.loop.rest.now c.loop-test.true c.in_err-rest.ensures c.loop.invariant)

pub loop-preserved : goal.loop-preserved
loop-preserved c =
    past_next entry_from c.args.nodes c.loop.counter c.args.bytes.now c.loop.rest.now c.in_ok-rest.ensures.0 c.in_ok-rest.rest.now c.loop-test.true c.in_ok-rest.ensures.1 c.loop.invariant

pub returns : goal.returns
returns c = past_all entry_from c.args.nodes c.loop.counter c.args.bytes.now c.loop.rest.now c.loop-test.false c.loop.invariant
