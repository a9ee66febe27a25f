-- Each seat told its replies.
use Rattle.std.proofs.Common.{arith, refl, sym, ◌∙◌}
use Rattle.lt_live.specs.Seats.{TellsSeat}
use Rattle.lt_live.proofs.SeatLists.{going_starts, going_on, going_ends}
use Rattle.lt_live.proofs.turning.tell_all.Goals as goal

pub loop-place-init : goal.loop-place-init
loop-place-init c = record { going = going_starts (TellsSeat c.args.log.now.entries) c.args.seats.now.items; count = refl }

pub tell_at-requires-clause-cursor : goal.tell_at-requires-clause-cursor
tell_at-requires-clause-cursor c = λ seat e. c.requires c.loop-place.place seat (sym (c.loop-place.invariant.going.rest c.loop-place.place (omega arith)) ∙ e)

pub loop-place-preserved : goal.loop-place-preserved
loop-place-preserved c =
    let going = going_on (TellsSeat c.args.log.now.entries) c.loop-place.place c.args.seats.now.items c.loop-place.seats.items c.tell_at.new.seats.items c.loop-place.invariant.going c.tell_at.ensures in
    record { going = going; count = going.count }

pub returns : goal.returns
returns c = going_ends (TellsSeat c.args.log.now.entries) c.loop-place.place c.args.seats.now.items c.loop-place.seats.items (omega (arith, c.loop-place.invariant.count, c.loop-place-test.false)) c.loop-place.invariant.going
