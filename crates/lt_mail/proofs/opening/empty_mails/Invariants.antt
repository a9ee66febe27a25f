-- The loop that makes mails without rings.
use Rattle.lt_mail.specs.Opening.{AreEmpty}
use Rattle.lt_mail.proofs.opening.empty_mails.Given as goal

abbrev pub invariant-loop-node : goal.invariant-loop-node
invariant-loop-node l = AreEmpty l.node l.mails.items
