use Rattle.std.proofs.Common.{Bool, List, length, IfSome, IfNone, arith, ap, subst}
use Rattle.lt_inbox.specs.Bits.{IsFirstFrom, NoneFrom}
use Rattle.lt_inbox.proofs.Sets.{first_node, no_node, marks_length}
use Rattle.lt_inbox.proofs.node_set.NodeSet.first_from.Goals as goal

pub returns-clause-some : goal.returns-clause-some
returns-clause-some c =
    let inside = c.self.inside in
    subst (λ (marks : List Bool). IfSome c.first_bit.result (IsFirstFrom marks c.args.from)) c.self.view_is
    (first_node inside.words inside.nodes inside.len c.args.from c.first_bit.result c.self.invariant c.first_bit.ensures.some)

pub returns-clause-none : goal.returns-clause-none
returns-clause-none c =
    let inside = c.self.inside in
    subst (λ (marks : List Bool). IfNone c.first_bit.result (NoneFrom marks c.args.from)) c.self.view_is
    (no_node inside.words inside.nodes inside.len c.args.from c.first_bit.result c.self.invariant c.first_bit.ensures.none)

pub returns-clause-few : goal.returns-clause-few
returns-clause-few c = omega (arith, c.self.invariant.few, ap length c.self.view_is, marks_length c.self.inside.nodes c.self.inside.words)
