-- One more mail.
use Rattle.std.proofs.Common.{List, subst, sym, ◌+◌}
use Rattle.lt_mail.specs.declared.mail.Mail.{Mail}
use Rattle.lt_mail.specs.Opening.{AreEmpty}
use Rattle.lt_mail.proofs.OpeningLemmas.{next_empty}
use Rattle.lt_mail.proofs.opening.empty_mails.Goals as goal

pub loop-node-preserved : goal.loop-node-preserved
loop-node-preserved c =
    subst (λ (ms : List Mail). AreEmpty (c.loop-node.node + 1) ms) (sym c.in_ok-push.ensures.items)
    (next_empty c.loop-node.node c.loop-node.mails.items c.in_ok-empty_mail.field-0 c.loop-node.invariant c.in_ok-empty_mail.ensures)
