-- Each seat took a command in.
use Rattle.std.proofs.Common.{arith, refl}
use Rattle.lt_live.specs.Seats.{TakesIn}
use Rattle.lt_live.proofs.SeatLists.{going_starts, going_on, going_ends}
use Rattle.lt_live.proofs.turning.take_all.Goals as goal

pub loop-place-init : goal.loop-place-init
loop-place-init c = record { going = going_starts TakesIn c.args.seats.now.items; count = refl }

pub loop-place-preserved : goal.loop-place-preserved
loop-place-preserved c =
    let going = going_on TakesIn c.loop-place.place c.args.seats.now.items c.loop-place.seats.items c.take_at.new.seats.items c.loop-place.invariant.going c.take_at.ensures in
    record { going = going; count = going.count }

pub returns : goal.returns
returns c = going_ends TakesIn c.loop-place.place c.args.seats.now.items c.loop-place.seats.items (omega (arith, c.loop-place.invariant.count, c.loop-place-test.false)) c.loop-place.invariant.going
