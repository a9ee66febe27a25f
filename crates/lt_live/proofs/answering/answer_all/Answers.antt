-- Each seat told its replies, and those whose rings were given some are marked.
use Rattle.std.proofs.Common.{◌≤◌, length, arith, refl, sym, ◌∙◌}
use Rattle.std.proofs.lemmas.Option.{slice_get_within}
use Rattle.lt_live.specs.Seats.{TellsSeat}
use Rattle.lt_live.proofs.Marking.{told_none, seat_tells, told_more, told_all}
use Rattle.lt_live.proofs.SeatLists.{going_starts, going_on, going_ends}
use Rattle.lt_live.proofs.answering.answer_all.Goals as goal

pub loop-place-init : goal.loop-place-init
loop-place-init c = record {
  going = going_starts (TellsSeat c.args.log.now.entries) c.args.seats.now.items;
  told = told_none c.args.told.now c.args.seats.now.items;
  count = refl;
}

pub answer_at-requires-clause-cursor : goal.answer_at-requires-clause-cursor
answer_at-requires-clause-cursor c = λ seat e.
    c.requires.cursors c.loop-place.place seat (sym (c.loop-place.invariant.going.rest c.loop-place.place (omega arith)) ∙ e)

pub answer_at-requires-clause-few : goal.answer_at-requires-clause-few
answer_at-requires-clause-few c = λ seat e.
    c.requires.bits.few c.loop-place.place seat (sym (c.loop-place.invariant.going.rest c.loop-place.place (omega arith)) ∙ e)

pub loop-place-preserved : goal.loop-place-preserved
loop-place-preserved c =
    let log = c.args.log.now.entries in
    let before = c.loop-place.invariant in
    let going = going_on (TellsSeat log) c.loop-place.place c.args.seats.now.items c.loop-place.seats.items c.answer_at.new.seats.items before.going
    (seat_tells log c.loop-place.told c.answer_at.new.told c.loop-place.place c.loop-place.seats.items c.answer_at.new.seats.items c.answer_at.ensures) in
    record {
      going = going;
      told = told_more log c.loop-place.place c.args.told.now c.loop-place.told c.answer_at.new.told c.args.seats.now.items c.loop-place.seats.items
          c.answer_at.new.seats.items c.requires.bits before.going c.answer_at.ensures before.told;
      count = going.count;
    }

pub returns-clause-tells : goal.returns-clause-tells
returns-clause-tells c =
    going_ends (TellsSeat c.args.log.now.entries) c.loop-place.place c.args.seats.now.items c.loop-place.seats.items
    (omega (arith, c.loop-place.invariant.count, c.loop-place-test.false)) c.loop-place.invariant.going

pub returns-clause-told : goal.returns-clause-told
returns-clause-told c =
    let long : length c.args.seats.now.items ≤ c.loop-place.place = omega (arith, c.loop-place.invariant.count, c.loop-place-test.false) in
    told_all c.args.log.now.entries c.loop-place.place c.args.told.now c.loop-place.told c.args.seats.now.items c.loop-place.seats.items long
    (going_ends (TellsSeat c.args.log.now.entries) c.loop-place.place c.args.seats.now.items c.loop-place.seats.items long c.loop-place.invariant.going)
    c.loop-place.invariant.told
