use Rattle.std.proofs.Common.{◌&&◌, nat_lt}
use Rattle.lt_modes.specs.Waiting.{parked_behind}
use Rattle.lt_node.specs.Marks.{AreAdded}
use Rattle.lt_node.proofs.behind.mark_parked.Given as goal

abbrev pub invariant-loop-other : goal.invariant-loop-other
invariant-loop-other l = AreAdded (λ other. nat_lt other l.other && parked_behind l.core.state other l.client) l.fn.marks.items l.marks.items
