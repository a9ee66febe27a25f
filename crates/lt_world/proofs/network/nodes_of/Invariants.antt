use Rattle.std.proofs.Common.{◌≡◌, ◌<◌, ℕ, length}
use Rattle.lt_spec.specs.World.{start}
use Rattle.lt_node.specs.Clients.{HaveFrom}
use Rattle.lt_world.specs.Fields.{IsNodeOf, node_at}
use Rattle.lt_world.proofs.network.nodes_of.Given as goal

abbrev pub invariant-loop-node : goal.invariant-loop-node
invariant-loop-node l = record {
  count : length l.nodes.items ≡ l.node;
  each : (q : ℕ) → q < l.node → IsNodeOf l.script q ((start l.script).node q) (node_at l.nodes.items q);
  left : HaveFrom l.script l.node l.commands;
}
