-- The loop over the nodes that send.
use Rattle.lt_mail.specs.Opening.{Opening}
use Rattle.lt_mail.proofs.opening.open.Given as goal

abbrev pub invariant-loop-from : goal.invariant-loop-from
invariant-loop-from l = Opening l.fn.nodes l.fn.capacity l.from 0 l.mails.items
