-- The loop over the event lines.
use Rattle.std.proofs.Common.{◌≡◌, ◌<◌, ◌≤◌, length}
use Rattle.lt_merge.specs.Merging.{with_events}
use Rattle.lt_runner.proofs.making.note_events.Given as goal

abbrev pub invariant-loop-event : goal.invariant-loop-event
invariant-loop-event l = record {
  noted : with_events l.log.entries l.out.events ≡ with_events l.initial.log.entries l.initial.out.events;
  some : l.log.gone < length l.log.entries;
  gone : l.log.gone ≡ l.initial.log.gone;
  room : length l.out.events ≤ l.log.room;
  rest : l.out ≡ record l.initial.out { events = l.out.events };
}

abbrev pub decreases-loop-event : goal.decreases-loop-event
decreases-loop-event l = length l.out.events
