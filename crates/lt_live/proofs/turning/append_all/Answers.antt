-- Each seat may have handed its command over, until memory ran out for one.
use Rattle.std.proofs.Common.{arith, refl}
use Rattle.lt_live.specs.Stations.{HandMayGo}
use Rattle.lt_live.proofs.SeatLists.{going_starts, going_on, going_ends}
use Rattle.lt_live.proofs.TurnParts.{only_self, only_join, none_first, first_on, first_all}
use Rattle.lt_live.proofs.turning.append_all.Goals as goal

pub loop-place-init : goal.loop-place-init
loop-place-init c = record {
  kept = c.requires;
  runner = only_self c.args.runner.now;
  going = going_starts HandMayGo c.args.seats.now.items;
  count = refl;
  hands = none_first c.args.runner.now c.args.seats.now.items;
}

pub loop-place-preserved : goal.loop-place-preserved
loop-place-preserved c =
    let before = c.loop-place.invariant in
    let step = c.append_at.ensures in
    let going = going_on HandMayGo c.loop-place.place c.args.seats.now.items c.loop-place.seats.items c.append_at.new.seats.items before.going step.seat in
    record {
      kept = step.kept;
      runner = only_join c.args.runner.now c.loop-place.runner c.append_at.new.runner before.runner step.runner;
      going = going;
      count = going.count;
      hands = first_on c.loop-place.place c.loop-place.runner c.append_at.new.runner c.loop-place.seats.items c.append_at.new.seats.items step.runner step.seat
          before.hands (step.hand c.if-not-append_at.false);
    }

pub returns-clause-all : goal.returns-clause-all
returns-clause-all c = λ fits.
    first_all c.loop-place.place c.loop-place.runner c.loop-place.seats.items (omega (arith, c.loop-place.invariant.count, c.loop-place-test.false)) c.loop-place.invariant.hands

pub returns-clause-seats : goal.returns-clause-seats
returns-clause-seats c =
    going_ends HandMayGo c.loop-place.place c.args.seats.now.items c.loop-place.seats.items
    (omega (arith, c.loop-place.invariant.count, c.loop-place-test.false)) c.loop-place.invariant.going
