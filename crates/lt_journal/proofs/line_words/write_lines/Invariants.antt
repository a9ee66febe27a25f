use Rattle.std.proofs.Common.{◌≡◌, ◌++◌, drop}
use Rattle.lt_journal.specs.RunLines.{lines_text}
use Rattle.lt_journal.proofs.line_words.write_lines.Given as goal

abbrev pub invariant-loop-line : goal.invariant-loop-line
invariant-loop-line l = l.text ++ lines_text l.script (drop l.line-index l.lines) ≡ l.fn.text ++ lines_text l.script l.lines
