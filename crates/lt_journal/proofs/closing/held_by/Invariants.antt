use Rattle.std.proofs.Common.{◌≡◌, ◌++◌, List}
use Rattle.lt_modes.specs.declared.event.Event.{Event}
use Rattle.lt_spec.specs.Holdings.{holdings}
use Rattle.lt_journal.specs.RunLines.{lines_below, held_in_set}
use Rattle.lt_tally.specs.LockTable.{IsTallied}
use Rattle.lt_journal.proofs.closing.held_by.Given as goal

abbrev pub invariant-loop-set : goal.invariant-loop-set
invariant-loop-set l =
    (events : List Event) → IsTallied l.script l.tally events → l.lines.items ≡ l.fn.lines.items ++ lines_below l.set (held_in_set (holdings l.script events) l.client)
