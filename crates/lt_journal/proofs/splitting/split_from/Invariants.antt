use Rattle.std.proofs.Common.{◌≡◌, ◌≤◌, ◌+◌, length, position}
use Rattle.std.specs.List.{position_from}
use Rattle.lt_text.specs.Text.{lines}
use Rattle.lt_journal.specs.Split.{is_journal_line, after_lines}
use Rattle.lt_journal.proofs.splitting.split_from.Given as goal

-- so many lines are passed, and none of them was `journal`
abbrev pub invariant-loop-line : goal.invariant-loop-line
invariant-loop-line l = record {
  passed : l.rest ≡ after_lines l.lines l.bytes;
  none : position is_journal_line (lines l.bytes) ≡ position_from is_journal_line l.lines (lines l.rest);
  count : l.lines + length (lines l.rest) ≡ length (lines l.bytes);
  few : l.lines + length l.rest ≤ length l.bytes;
}

abbrev pub decreases-loop-line : goal.decreases-loop-line
decreases-loop-line l = length l.rest
