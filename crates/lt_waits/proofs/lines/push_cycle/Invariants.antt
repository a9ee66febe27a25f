use Rattle.std.proofs.Common.{◌≡◌, ◌++◌, take, map, codes}
use Rattle.lt_modes.specs.Script.{client_name}
use Rattle.lt_text.specs.Text.{each_after_space}
use Rattle.lt_waits.proofs.lines.push_cycle.Given as goal

abbrev pub invariant-loop-client : goal.invariant-loop-client
invariant-loop-client l = l.out.items ≡ l.fn.out.items ++ (codes "cycle" ++ each_after_space (map (client_name l.script) (take l.client-index l.ring)))
