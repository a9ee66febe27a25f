-- The loop that makes the rings from one node.
use Rattle.lt_mail.specs.Opening.{Opening}
use Rattle.lt_mail.proofs.opening.open_row.Given as goal

abbrev pub invariant-loop-to : goal.invariant-loop-to
invariant-loop-to l = Opening l.fn.nodes l.fn.capacity l.fn.from l.to l.mails.items
