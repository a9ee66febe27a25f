use Rattle.std.proofs.Common.{◌≡◌, ◌++◌, List, take, flat_map}
use Rattle.lt_modes.specs.declared.event.Event.{Event}
use Rattle.lt_modes.specs.declared.mode.TheConstants.{MODES}
use Rattle.lt_spec.specs.Holdings.{holdings}
use Rattle.lt_journal.specs.RunLines.{held_in_mode}
use Rattle.lt_tally.specs.LockTable.{IsTallied}
use Rattle.lt_journal.proofs.closing.held_in_set.Given as goal

abbrev pub invariant-loop-mode : goal.invariant-loop-mode
invariant-loop-mode l =
    (events : List Event) → IsTallied l.script l.tally events
    → l.lines.items ≡ l.fn.lines.items ++ flat_map (held_in_mode (holdings l.script events) l.client l.set) (take l.mode-index MODES)
