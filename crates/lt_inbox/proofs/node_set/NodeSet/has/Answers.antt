use Rattle.std.proofs.Common.{◌∙◌, Bool, List, sym, ap}
use Rattle.lt_inbox.specs.Mail.{has_from}
use Rattle.lt_inbox.proofs.Sets.{mark_is}
use Rattle.lt_inbox.proofs.node_set.NodeSet.has.Goals as goal

pub returns : goal.returns
returns c =
    let inside = c.self.inside in
    c.has_bit.ensures
    ∙ (sym (mark_is inside.words inside.nodes inside.len c.args.node c.self.invariant)
    ∙ ap (λ (marks : List Bool). has_from marks c.args.node) c.self.view_is)
