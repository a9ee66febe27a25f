use Rattle.std.proofs.Common.{◌∙◌, ℕ, ap, arith, refl}
use Rattle.lt_node.specs.NodeData.{untouched}
use Rattle.lt_node.proofs.SetsLemmas.{none_count, none_placed, none_stored, none_touched}
use Rattle.lt_node.proofs.sets.Sets.new.Goals as goal

pub invariant_of-result : goal.invariant_of-result
invariant_of-result c =
    let script = c.nodes-nodes.ensures.kept in
    none_stored c.nodes-nodes.result c.args.node c.sets.result c.from.result c.in_ok-first.first c.in_ok-places.places.items c.new-2.result.items c.in_ok-waiting.waiting.items
    (omega (arith, c.nodes-nodes.ensures.nodes, script.few_nodes)) (omega (arith, c.sets.ensures, script.few_sets))
    (c.in_ok-first.ensures.place.0, c.in_ok-first.ensures.state) c.in_ok-places.ensures c.new-2.ensures.items c.in_ok-waiting.ensures

pub returns-clause-sets : goal.returns-clause-sets
returns-clause-sets c = record {
  nodes = c.nodes-nodes.ensures.nodes;
  node = refl;
  count = none_count c.nodes-nodes.result c.args.node c.sets.result c.in_ok-places.places.items c.new-2.result.items c.in_ok-places.ensures ∙ c.sets.ensures;
  places = none_placed c.nodes-nodes.result c.args.node c.sets.result c.in_ok-places.places.items c.new-2.result.items c.in_ok-places.ensures c.new-2.ensures.items;
}

pub returns-clause-first : goal.returns-clause-first
returns-clause-first c = λ s.
    none_touched c.nodes-nodes.result c.args.node c.sets.result c.in_ok-places.places.items c.new-2.result.items c.in_ok-places.ensures c.new-2.ensures.items s
    ∙ ap (λ (nodes : ℕ). untouched nodes c.args.node s) c.nodes-nodes.ensures.nodes
