use Rattle.std.proofs.Common.{◌∷◌, [], arith, length-append}
use Rattle.std.proofs.lemmas.Result.{err_from_is_err_and}
use Rattle.lt_letters.specs.Reading.{many_from, ask_from}
use Rattle.lt_letters.proofs.Loop.{goes_on, stops, is_done}
use Rattle.lt_letters.proofs.lists.asks_in.Goals as goal

pub returns-in_err-ask-clause-value : goal.returns-in_err-ask-clause-value
returns-in_err-ask-clause-value c =
    let p = err_from_is_err_and c.from_residual.result c.from_residual.ensures.1 in
    rw (p.1, p.2) (stops ask_from c.in_err-ask.field-0.0 c.loop.asks.items c.args.count c.loop.counter c.loop.rest.now (many_from ask_from c.args.count c.args.bytes.now) c.loop-test.true c.in_err-ask.ensures c.loop.invariant.1)

pub loop-preserved : goal.loop-preserved
loop-preserved c =
    let x = c.in_ok-ask.ask in
    rw c.in_ok-push.ensures.items (
      omega (arith, length-append c.loop.asks.items (x ∷ []), c.loop.invariant.0),
      goes_on ask_from c.loop.asks.items c.args.count c.loop.counter c.loop.rest.now x c.in_ok-ask.after.now (many_from ask_from c.args.count c.args.bytes.now) c.loop-test.true c.in_ok-ask.ensures c.loop.invariant.1,
    )

pub returns-clause-value : goal.returns-clause-value
returns-clause-value c = is_done ask_from c.loop.asks.items c.args.count c.loop.counter c.loop.rest.now (many_from ask_from c.args.count c.args.bytes.now) c.loop-test.false c.loop.invariant.1
