use Rattle.std.proofs.Common.{◌∙◌, ◌-◌, List, length, ap, deque_capacity, slice_get}
use Rattle.lt_spec.specs.FixedOrder.{Turn}
use Rattle.lt_inbox.specs.Mail.{MailData, takes_in}
use Rattle.lt_inbox.proofs.TakeOrder.{takes_marked}
use Rattle.lt_inbox.proofs.inboxes.Inboxes.take_at.Goals as goal

pub returns : goal.returns
returns c =
    let inside = c.self.inside in
    c.take_at.ensures
    ∙ (ap (λ (ts : List Turn). slice_get ts c.args.k) (takes_marked inside.pairs inside.sent.items (deque_capacity inside.sent - length inside.sent.items) c.self.invariant.marked)
    ∙ ap (λ (m : MailData). slice_get (takes_in m) c.args.k) c.self.view_is)
