use Rattle.std.proofs.Common.{◌∙◌, ◌-◌, length, ap, deque_capacity}
use Rattle.lt_inbox.specs.Mail.{MailData, takes_in}
use Rattle.lt_inbox.proofs.TakeOrder.{takes_marked}
use Rattle.lt_inbox.proofs.inboxes.Inboxes.count_takes.Goals as goal

pub returns-clause-count : goal.returns-clause-count
returns-clause-count c =
    let inside = c.self.inside in
    c.count_takes.ensures.count
    ∙ (ap length (takes_marked inside.pairs inside.sent.items (deque_capacity inside.sent - length inside.sent.items) c.self.invariant.marked)
    ∙ ap (λ (m : MailData). length (takes_in m)) c.self.view_is)
