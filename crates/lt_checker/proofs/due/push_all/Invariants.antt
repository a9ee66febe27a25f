use Rattle.std.proofs.Common.{◌≡◌, ◌++◌, drop}
use Rattle.lt_checker.proofs.due.push_all.Given as goal

abbrev pub invariant-loop-line : goal.invariant-loop-line
invariant-loop-line l = l.due.items ++ drop l.line-index l.lines ≡ l.fn.due.items ++ l.lines
