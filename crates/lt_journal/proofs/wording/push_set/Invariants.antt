use Rattle.lt_journal.specs.Wording.{AreLockWords}
use Rattle.lt_journal.proofs.wording.push_set.Given as goal

abbrev pub invariant-loop-mode : goal.invariant-loop-mode
invariant-loop-mode l = AreLockWords l.script l.locks.items
