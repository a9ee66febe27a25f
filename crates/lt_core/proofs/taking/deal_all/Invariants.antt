use Rattle.std.proofs.Common.{◌≡◌, ◌≤◌, ◌+◌, length, map, fold, filter_map, deque_capacity}
use Rattle.lt_modes.specs.Fits.{ask_if}
use Rattle.lt_modes.specs.Routing.{dealt}
use Rattle.lt_desk.specs.LetterSeen.{parked_seen}
use Rattle.lt_core.proofs.taking.deal_all.Given as goal

abbrev pub invariant-loop-item : goal.invariant-loop-item
invariant-loop-item l = record {
  desk : fold dealt l.desk.desk (map parked_seen l.parked.items) ≡ fold dealt l.initial.desk.desk (map parked_seen l.initial.parked.items);
  capacity : deque_capacity l.parked ≡ deque_capacity l.initial.parked;
  queue : length l.desk.desk.queue + length (filter_map ask_if (map parked_seen l.parked.items)) ≡ length l.initial.desk.desk.queue + length (filter_map ask_if (map parked_seen l.initial.parked.items));
  epoch : l.desk.desk.epoch ≡ l.initial.desk.desk.epoch;
  number : l.desk.desk.number ≡ l.initial.desk.desk.number;
  room : l.desk.room ≡ l.initial.desk.room;
  spare : l.initial.desk.spare ≤ l.desk.spare;
}

abbrev pub decreases-loop-item : goal.decreases-loop-item
decreases-loop-item l = length l.parked.items
