use Rattle.std.proofs.Common.{◌≡◌, ◌++◌}
use Rattle.lt_nest_lines.specs.Written.{each_below, waiting_text_of}
use Rattle.lt_nest_lines.proofs.closing.push_waiting.Given as goal

abbrev pub invariant-loop-transaction : goal.invariant-loop-transaction
invariant-loop-transaction l = l.out.items ≡ l.fn.out.items ++ each_below l.transaction (waiting_text_of l.input l.play)
