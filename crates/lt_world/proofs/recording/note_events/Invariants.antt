use Rattle.std.proofs.Common.{◌≡◌, ◌<◌, ◌≤◌, [], length}
use Rattle.lt_merge.specs.Merging.{with_events}
use Rattle.lt_world.proofs.recording.note_events.Given as goal

abbrev pub invariant-loop-event : goal.invariant-loop-event
invariant-loop-event l = record {
  noted : with_events l.run.entries l.out.events ≡ with_events l.initial.run.entries l.initial.out.events;
  some : 0 < length l.run.entries;
  out : record l.out { events = [] } ≡ record l.initial.out { events = [] };
  room : length l.out.events ≤ l.run.room;
}

abbrev pub decreases-loop-event : goal.decreases-loop-event
decreases-loop-event l = length l.out.events
