use Rattle.std.proofs.Common.{◌≡◌, ◌<◌, ◌+◌, ◌*◌, length}
use Rattle.lt_turns.specs.Turns.{AreLeastBut, AreLeaves}
use Rattle.lt_turns.proofs.tree.update.Given as goal

abbrev pub invariant-loop-node : goal.invariant-loop-node
invariant-loop-node l = record {
  count : length l.ranks ≡ length l.fn.ranks;
  inside : 2 * l.node + 1 < length l.ranks;
  leaves : AreLeaves l.fn.ranks l.leaf l.rank l.ranks;
  least : AreLeastBut l.ranks l.node;
}

abbrev pub decreases-loop-node : goal.decreases-loop-node
decreases-loop-node l = l.node
