use Rattle.lt_journal.specs.Wording.{AreLockWords}
use Rattle.lt_journal.proofs.wording.lock_words.Given as goal

abbrev pub invariant-loop-set : goal.invariant-loop-set
invariant-loop-set l = AreLockWords l.script l.locks.items
