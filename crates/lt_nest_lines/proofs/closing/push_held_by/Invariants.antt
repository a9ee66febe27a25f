use Rattle.std.proofs.Common.{◌≡◌, ◌++◌}
use Rattle.lt_nest_lines.specs.Written.{each_below, held_text_in_set}
use Rattle.lt_nest_lines.proofs.closing.push_held_by.Given as goal

abbrev pub invariant-loop-set : goal.invariant-loop-set
invariant-loop-set l = l.out.items ≡ l.fn.out.items ++ each_below l.set (held_text_in_set l.input l.play l.transaction)
