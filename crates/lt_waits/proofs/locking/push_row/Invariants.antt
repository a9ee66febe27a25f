use Rattle.std.proofs.Common.{◌≡◌, ◌++◌, map}
use Rattle.lt_spec.specs.Rings.{numbers_below}
use Rattle.lt_waits.specs.Serves.{graph_of}
use Rattle.lt_waits.specs.Reasons.{by_lock}
use Rattle.lt_waits.proofs.locking.push_row.Given as goal

abbrev pub invariant-loop-other : goal.invariant-loop-other
invariant-loop-other l =
    l.pairs.items ≡ l.fn.pairs.items ++ map (by_lock l.tallied.script l.tallied.lines (graph_of l.graph) l.client) (numbers_below l.other)
