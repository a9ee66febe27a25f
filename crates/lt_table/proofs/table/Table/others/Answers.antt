use Rattle.std.proofs.Common.{subst, ap, ◌∙◌}
use Rattle.lt_modes.specs.Modes.{union}
use Rattle.lt_table.specs.TableData.{AreNodeCounts}
use Rattle.lt_table.proofs.RecountLemmas.{others_are_apart, others_are_plain}
use Rattle.lt_table.proofs.table.Table.others.Goals as goal

pub returns-then-counts_apart : goal.returns-then-counts_apart
returns-then-counts_apart c = λ s desk e own.
    let counts = c.self.inside.counts in
    others_are_apart counts c.args.self.now.entries c.args.me c.args.node c.args.own c.rec-at_node.result c.rec.result c.union.result
    c.counts_apart.result s desk (subst (λ all. AreNodeCounts all counts) (ap (λ t. t.entries) c.self.view_is) c.self.invariant.1.0)
    c.counts_apart.ensures c.if-counts_apart.true c.rec-at_node.ensures c.rec.ensures (c.union.ensures ∙ ap (λ m. union m c.args.own) c.beyond.ensures) e own

pub returns-else-counts_apart : goal.returns-else-counts_apart
returns-else-counts_apart c = λ s desk e own.
    let counts = c.self.inside.counts in
    others_are_plain counts c.args.self.now.entries c.args.me c.args.node c.rec-at_node.result c.empty.result c.beyond-else-counts_apart.result
    c.counts_apart.result s desk (subst (λ all. AreNodeCounts all counts) (ap (λ t. t.entries) c.self.view_is) c.self.invariant.1.0)
    c.counts_apart.ensures c.if-counts_apart.false c.rec-at_node.ensures c.empty.ensures c.beyond-else-counts_apart.ensures e
