use Rattle.std.proofs.Common.{◌≡◌, ◌++◌, map, take}
use Rattle.lt_waits.specs.Serves.{void_line_of, waits_text}
use Rattle.lt_waits.proofs.voids.push_voids.Given as goal

abbrev pub invariant-loop-edge : goal.invariant-loop-edge
invariant-loop-edge l = l.out.items ≡ l.fn.out.items ++ waits_text l.script (map void_line_of (take l.edge-index l.edges))
