use Rattle.lt_journal.specs.Wording.{AreClientWords}
use Rattle.lt_journal.proofs.wording.client_words.Given as goal

abbrev pub invariant-loop-client : goal.invariant-loop-client
invariant-loop-client l = AreClientWords l.script l.clients.items
