-- Each seat has read the log, or the first ones.
use Rattle.std.proofs.Common.{arith, refl, sym, ◌∙◌, ◌+◌}
use Rattle.lt_live.specs.Seats.{HasReadOn}
use Rattle.lt_live.proofs.SeatLists.{going_starts, going_on, going_ends, going_stops}
use Rattle.lt_live.proofs.Forgotten.{reads_itself, none_read, next_read, all_read}
use Rattle.lt_live.proofs.forgetting.read_all.Goals as goal

pub loop-place-init : goal.loop-place-init
loop-place-init c = record {
  going = going_starts (HasReadOn c.args.log.now.entries) c.args.seats.now.items;
  count = refl;
  read = none_read c.args.log.now.entries c.args.seats.now.items;
}

pub read_at-requires-clause-cursor : goal.read_at-requires-clause-cursor
read_at-requires-clause-cursor c = λ seat e. c.requires c.loop-place.place seat (sym (c.loop-place.invariant.going.rest c.loop-place.place (omega arith)) ∙ e)

pub returns-in_err-read_at-clause-reads : goal.returns-in_err-read_at-clause-reads
returns-in_err-read_at-clause-reads c =
    let log = c.args.log.now.entries in
    let going = going_on (HasReadOn log) c.loop-place.place c.args.seats.now.items c.loop-place.seats.items c.read_at.new.seats.items c.loop-place.invariant.going c.read_at.ensures.reads in
    going_stops (HasReadOn log) (reads_itself log) (c.loop-place.place + 1) c.args.seats.now.items c.read_at.new.seats.items going

pub loop-place-preserved : goal.loop-place-preserved
loop-place-preserved c =
    let log = c.args.log.now.entries in
    let before = c.loop-place.invariant in
    let going = going_on (HasReadOn log) c.loop-place.place c.args.seats.now.items c.loop-place.seats.items c.read_at.new.seats.items before.going c.read_at.ensures.reads in
    record {
      going = going;
      count = going.count;
      read = next_read c.loop-place.place log c.loop-place.seats.items c.read_at.new.seats.items c.read_at.ensures.reads before.read c.in_ok-read_at.ensures.all;
    }

pub returns-clause-reads : goal.returns-clause-reads
returns-clause-reads c =
    going_ends (HasReadOn c.args.log.now.entries) c.loop-place.place c.args.seats.now.items c.loop-place.seats.items
    (omega (arith, c.loop-place.invariant.count, c.loop-place-test.false)) c.loop-place.invariant.going

pub returns-clause-all : goal.returns-clause-all
returns-clause-all c =
    all_read c.loop-place.place c.args.log.now.entries c.loop-place.seats.items (omega (arith, c.loop-place.invariant.count, c.loop-place-test.false)) c.loop-place.invariant.read
