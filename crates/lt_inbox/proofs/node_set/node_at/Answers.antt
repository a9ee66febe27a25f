use Rattle.std.proofs.Common.{◌≡◌, ◌∙◌, ◌+◌, ◌-◌, suc, ◌∷◌, ℕ, List, slice_get, arith, sym, ap}
use Rattle.lt_inbox.proofs.Sets.{nodes_at_first, no_nodes, nodes_from}
use Rattle.lt_inbox.proofs.node_set.node_at.Goals as goal

pub returns-then-left-eq0 : goal.returns-then-left-eq0
returns-then-left-eq0 c =
    sym (ap (λ (nodes : List ℕ). slice_get nodes 0) (nodes_at_first c.args.nodes.now c.loop-node.from c.in-Some.node c.in-Some.ensures.some))
    ∙ (ap (slice_get (nodes_from c.args.nodes.now c.loop-node.from)) (sym c.if-left-eq0.true)
    ∙ c.loop-node.invariant.rest)

pub overflow_add-from : goal.overflow_add-from
overflow_add-from c = omega (arith, c.in-Some.ensures.some.within, c.first_from.ensures.few)

pub loop-node-preserved : goal.loop-node-preserved
loop-node-preserved c =
    let marks = c.args.nodes.now in
    let one_less : c.loop-node.left ≡ suc (c.loop-node.left - 1) = omega (arith, c.if-left-eq0.false) in
    record {
      inside = omega (arith, c.in-Some.ensures.some.within);
      rest =
          sym (ap (slice_get (c.in-Some.node ∷ nodes_from marks (c.in-Some.node + 1))) one_less)
          ∙ (sym (ap (λ (nodes : List ℕ). slice_get nodes c.loop-node.left) (nodes_at_first marks c.loop-node.from c.in-Some.node c.in-Some.ensures.some))
          ∙ c.loop-node.invariant.rest);
    }

pub returns : goal.returns
returns c =
    sym (ap (λ (nodes : List ℕ). slice_get nodes c.loop-node.left) (no_nodes c.args.nodes.now c.loop-node.from c.loop-node.invariant.inside c.in_default.ensures.none))
    ∙ c.loop-node.invariant.rest
