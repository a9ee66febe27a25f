use Rattle.std.proofs.Common.{◌≡◌, ◌≤◌, drop, length}
use Rattle.lt_modes.specs.Fits.{has_client}
use Rattle.lt_modes.specs.Serving.{queue_of}
use Rattle.lt_modes.specs.Waiting.{is_before}
use Rattle.lt_node.specs.Marks.{AreAdded}
use Rattle.lt_node.proofs.behind.mark_queued.Given as goal

abbrev pub invariant-loop-k : goal.invariant-loop-k
invariant-loop-k l = record {
  within : l.k ≤ length (queue_of l.core.state);
  later : l.later ≡ has_client l.client (drop l.k (queue_of l.core.state));
  added : AreAdded (λ other. is_before other l.client (drop l.k (queue_of l.core.state))) l.fn.marks.items l.marks.items;
}

abbrev pub decreases-loop-k : goal.decreases-loop-k
decreases-loop-k l = l.k
