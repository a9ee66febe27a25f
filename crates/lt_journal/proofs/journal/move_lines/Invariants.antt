use Rattle.std.proofs.Common.{◌≡◌, ◌++◌, take}
use Rattle.lt_spec.specs.Holdings.{lines_of}
use Rattle.lt_tally.specs.LockTable.{IsTallied}
use Rattle.lt_journal.specs.RunLines.{moves_lines, lines_text}
use Rattle.lt_journal.proofs.journal.move_lines.Given as goal

abbrev pub invariant-loop-k : goal.invariant-loop-k
invariant-loop-k l = record {
  text : l.text ≡ l.fn.text ++ lines_text l.wording (moves_lines l.wording.version (take l.k l.run.entries));
  tally : IsTallied l.wording l.tally (lines_of (take l.k l.run.entries));
}
