use Rattle.std.proofs.Common.{◌∙◌, ◌+◌, ◌<◌, ℕ, List, ap, subst, sym, length}
use Rattle.std.proofs.lemmas.List.{length_push}
use Rattle.lt_spec.specs.World.{start}
use Rattle.lt_node.specs.NodeData.{NodeData}
use Rattle.lt_world.specs.Fields.{IsNodeOf, node_at}
use Rattle.lt_world.proofs.Taking.{one_more}
use Rattle.lt_world.proofs.network.nodes_of.Goals as goal

pub loop-node-preserved : goal.loop-node-preserved
loop-node-preserved c =
    let script = c.args.script.now in
    let made = c.in_ok-with_commands.field-0 in
    let nodes = c.loop-node.nodes.items in
    let items = c.in_ok-push.ensures.items in
    let said = c.in_ok-with_commands.ensures in
    record {
      count = ap length items ∙ length_push nodes made ∙ ap (λ (n : ℕ). n + 1) c.loop-node.invariant.count;
      each = subst (λ (l : List NodeData). (q : ℕ) → q < c.loop-node.node + 1 → IsNodeOf script q ((start script).node q) (node_at l q)) (sym items)
          (one_more script nodes made c.loop-node.node c.loop-node.invariant.count c.loop-node.invariant.each
          record { script_is = said.script; me = said.me; state_is = said.state });
      left = said.left;
    }
