-- The last line of the bytes that were seen begins at its place, and no line before it is `journal`.
use Rattle.std.proofs.Common.{◌≡◌, ◌≤◌, ◌-◌, length, take}
use Rattle.lt_text.specs.Text.{lines}
use Rattle.lt_checker.specs.Heads.{IsLastLine}
use Rattle.lt_checker.proofs.head.last_line.Given as goal

abbrev pub invariant-loop-more : goal.invariant-loop-more
invariant-loop-more l = record {
  place : l.last.place ≤ l.from;
  seen : l.from ≤ length l.bytes;
  line : IsLastLine (take l.from l.bytes) l.last.place;
  before : l.last.before ≡ length (lines (take l.last.place l.bytes));
}

abbrev pub decreases-loop-more : goal.decreases-loop-more
decreases-loop-more l = length l.bytes - l.from
