use Rattle.std.proofs.Common.{◌≡◌, ◌≤◌, ◌-◌, length, slice_get}
use Rattle.lt_inbox.specs.Mail.{senders_in}
use Rattle.lt_inbox.proofs.Sets.{nodes_from}
use Rattle.lt_inbox.proofs.node_set.node_at.Given as goal

abbrev pub invariant-loop-node : goal.invariant-loop-node
invariant-loop-node l = record {
  inside : l.from ≤ length l.nodes;
  rest : slice_get (nodes_from l.nodes l.from) l.left ≡ slice_get (senders_in l.nodes) l.k;
}

abbrev pub decreases-loop-node : goal.decreases-loop-node
decreases-loop-node l = length l.nodes - l.from
