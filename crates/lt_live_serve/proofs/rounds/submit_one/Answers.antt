-- The caller at this place has submitted all, or one command more.
use Rattle.std.proofs.Common.{◌<◌, length, arith, slice_set}
use Rattle.lt_live.proofs.SeatLists.{alike_join, alike_len}
use Rattle.lt_live_serve.specs.Completing.{Calls}
use Rattle.lt_live_serve.proofs.Lasting.{all_submitted, calls_join, less_left, next_submitted, one_called, one_less, same_callers}
use Rattle.lt_live_serve.proofs.rounds.submit_one.Goals as goal

pub loop-place-init : goal.loop-place-init
loop-place-init c = record {
  calls = same_callers c.args.callers.now;
  left = omega arith;
  submitted = λ k d below e. absurd (omega (arith, below));
}

pub loop-place-preserved : goal.loop-place-preserved
loop-place-preserved c =
    let callers = c.loop-place.callers in
    let place = c.loop-place.place in
    let here = c.index-callers-place.result in
    let after = c.submit_next.new.self in
    let before = c.loop-place.invariant in
    let inside : place < length callers =
    omega (arith, c.loop-place.auto.place-end, c.loop-place-test.true, alike_len Calls c.args.callers.now callers before.calls) in
    let one = one_called place callers here after inside c.submit_next.ensures.calls in
    let later = slice_set callers place after in
    record {
      calls = alike_join Calls calls_join c.args.callers.now callers later before.calls one;
      left = let left = before.left in omega (arith, left, less_left callers later one);
      submitted = next_submitted place callers after inside before.submitted (c.submit_next.ensures.none c.if-submit_next.false);
    }

pub returns-clause-none : goal.returns-clause-none
returns-clause-none c = λ over.
    let before = c.loop-place.invariant in
    all_submitted c.loop-place.place c.loop-place.callers
    (omega (arith, c.loop-place.auto.place-end, c.loop-place-test.false, alike_len Calls c.args.callers.now c.loop-place.callers before.calls)) before.submitted

pub returns-clause-callers : goal.returns-clause-callers
returns-clause-callers c = c.loop-place.invariant.calls

pub returns-then-submit_next-clause-callers : goal.returns-then-submit_next-clause-callers
returns-then-submit_next-clause-callers c =
    let callers = c.loop-place.callers in
    let place = c.loop-place.place in
    let after = c.submit_next.new.self in
    let before = c.loop-place.invariant in
    let inside : place < length callers =
    omega (arith, c.loop-place.auto.place-end, c.loop-place-test.true, alike_len Calls c.args.callers.now callers before.calls) in
    alike_join Calls calls_join c.args.callers.now callers (slice_set callers place after) before.calls
    (one_called place callers c.index-callers-place.result after inside c.submit_next.ensures.calls)

pub returns-then-submit_next-clause-one : goal.returns-then-submit_next-clause-one
returns-then-submit_next-clause-one c = λ one.
    let callers = c.loop-place.callers in
    let place = c.loop-place.place in
    let before = c.loop-place.invariant in
    let inside : place < length callers =
    omega (arith, c.loop-place.auto.place-end, c.loop-place-test.true, alike_len Calls c.args.callers.now callers before.calls) in
    let less = one_less place callers c.index-callers-place.result c.submit_next.new.self inside (c.submit_next.ensures.one c.if-submit_next.true) in
    let left = before.left in
    omega (arith, less, left)
