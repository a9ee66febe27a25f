use Rattle.std.proofs.Common.{◌≡◌, ◌++◌}
use Rattle.lt_waits.specs.Serves.{graph_of, waits_text, waits_lines_of}
use Rattle.lt_waits.proofs.lines.push_waits_of.Given as goal

abbrev pub invariant-loop-other : goal.invariant-loop-other
invariant-loop-other l = l.out.items ≡ l.fn.out.items ++ waits_text l.script (waits_lines_of l.other (graph_of l.graph) l.client)
