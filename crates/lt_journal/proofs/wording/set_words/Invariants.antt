use Rattle.lt_journal.specs.Wording.{AreSetWords}
use Rattle.lt_journal.proofs.wording.set_words.Given as goal

abbrev pub invariant-loop-set : goal.invariant-loop-set
invariant-loop-set l = AreSetWords l.script l.sets.items
