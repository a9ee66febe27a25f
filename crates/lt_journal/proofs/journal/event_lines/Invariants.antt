use Rattle.std.proofs.Common.{◌≡◌, ◌++◌, List, take}
use Rattle.lt_modes.specs.declared.event.Event.{Event}
use Rattle.lt_tally.specs.LockTable.{IsTallied}
use Rattle.lt_journal.specs.RunLines.{event_lines, lines_text}
use Rattle.lt_journal.proofs.journal.event_lines.Given as goal

abbrev pub invariant-loop-event : goal.invariant-loop-event
invariant-loop-event l = record {
  text : l.text ≡ l.fn.text ++ lines_text l.wording (event_lines l.wording.version (take l.event-index l.events));
  tally : (before : List Event) → IsTallied l.wording l.fn.tally before → IsTallied l.wording l.tally (before ++ take l.event-index l.events);
}
