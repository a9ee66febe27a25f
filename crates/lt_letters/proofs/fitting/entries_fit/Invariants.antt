use Rattle.std.proofs.Common.{map}
use Rattle.lt_table.specs.Seen.{entry_seen}
use Rattle.lt_letters.specs.Spelling.{EntryFits}
use Rattle.lt_letters.proofs.Passes.{FirstPass}
use Rattle.lt_letters.proofs.fitting.entries_fit.Given as goal

abbrev pub invariant-loop-entry : goal.invariant-loop-entry
invariant-loop-entry l = FirstPass EntryFits l.entry-index (map entry_seen l.entries)
