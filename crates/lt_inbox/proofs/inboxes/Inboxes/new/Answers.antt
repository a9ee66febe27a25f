use Rattle.std.proofs.Common.{sym, subst}
use Rattle.lt_inbox.specs.Counts.{AreNoted}
use Rattle.lt_inbox.proofs.Counts.{none_noted}
use Rattle.lt_inbox.proofs.inboxes.Inboxes.new.Goals as goal

pub invariant_of-result : goal.invariant_of-result
invariant_of-result c =
    let pairs = c.in_ok-pairs.ensures in
    let counts = c.in_ok-counts.ensures in
    let rows = c.in_ok-counts.counts.items in
    subst (AreNoted c.in_ok-pairs.pairs rows) (sym c.new-sent.ensures.items)
    (none_noted c.in_ok-pairs.pairs rows c.args.nodes pairs.square pairs.nodes pairs.empty counts.receivers counts.senders counts.none)
