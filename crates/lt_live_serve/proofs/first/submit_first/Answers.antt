-- One caller more submitted a command.
use Rattle.std.proofs.Common.{◌<◌, length, arith, slice_set}
use Rattle.lt_live.proofs.SeatLists.{alike_join, alike_len}
use Rattle.lt_live_serve.specs.Completing.{Calls}
use Rattle.lt_live_serve.proofs.Lasting.{calls_join, one_called}
use Rattle.lt_live_serve.proofs.first.submit_first.Goals as goal

pub loop-place-preserved : goal.loop-place-preserved
loop-place-preserved c =
    let callers = c.loop-place.callers in
    let place = c.loop-place.place in
    let after = c.submit_next.new.self in
    let inside : place < length callers =
    omega (arith, c.loop-place.auto.place-end, c.loop-place-test.true, alike_len Calls c.args.callers.now callers c.loop-place.invariant) in
    alike_join Calls calls_join c.args.callers.now callers (slice_set callers place after) c.loop-place.invariant
    (one_called place callers c.index-callers-place.result after inside c.submit_next.ensures.calls)
