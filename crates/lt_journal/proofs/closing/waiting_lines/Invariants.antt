use Rattle.std.proofs.Common.{◌≡◌, ◌++◌, List}
use Rattle.lt_modes.specs.declared.event.Event.{Event}
use Rattle.lt_spec.specs.Holdings.{wanted}
use Rattle.lt_journal.specs.RunLines.{lines_below, waiting_line}
use Rattle.lt_tally.specs.LockTable.{IsTallied}
use Rattle.lt_journal.proofs.closing.waiting_lines.Given as goal

abbrev pub invariant-loop-client : goal.invariant-loop-client
invariant-loop-client l =
    (events : List Event) → IsTallied l.script l.tally events → l.lines.items ≡ l.fn.lines.items ++ lines_below l.client (λ client. waiting_line (wanted client events))
