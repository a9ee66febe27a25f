use Rattle.std.proofs.Common.{◌++◌, take, List}
use Rattle.lt_modes.specs.declared.event.Event.{Event}
use Rattle.lt_tally.specs.LockTable.{IsTallied}
use Rattle.lt_tally.proofs.tally.apply_all.Given as goal

abbrev pub invariant-loop-event : goal.invariant-loop-event
invariant-loop-event l =
    (before : List Event) → IsTallied l.script l.fn.tally before → IsTallied l.script l.tally (before ++ take l.event-index l.events)
