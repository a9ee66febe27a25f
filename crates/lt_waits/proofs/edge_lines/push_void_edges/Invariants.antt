use Rattle.std.proofs.Common.{◌≡◌, ◌++◌, take}
use Rattle.lt_waits.specs.Reasons.{voids_text}
use Rattle.lt_waits.proofs.edge_lines.push_void_edges.Given as goal

abbrev pub invariant-loop-edge : goal.invariant-loop-edge
invariant-loop-edge l = l.out.items ≡ l.fn.out.items ++ voids_text l.tallied.script l.tallied.lines (take l.edge-index l.edges)
