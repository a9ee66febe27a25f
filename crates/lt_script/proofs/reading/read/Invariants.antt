use Rattle.std.proofs.Common.{◌≡◌, ◌≤◌, ◌+◌, length, IsTrue}
use Rattle.lt_text.specs.Text.{lines}
use Rattle.lt_script.specs.Reading.{read_from, read_of}
use Rattle.lt_script.specs.Steps.{ArePlain}
use Rattle.lt_script.proofs.reading.read.Given as goal

-- the lines that are left make of the script so far what all lines make of none
abbrev pub invariant-loop-line : goal.invariant-loop-line
invariant-loop-line l = record {
  same : read_from l.body.version (lines l.rest) l.number l.script ≡ read_of l.bytes;
  plain : IsTrue l.is_plain → ArePlain (lines l.rest);
  count : l.number + length l.rest ≤ length l.bytes + 1;
}

abbrev pub decreases-loop-line : goal.decreases-loop-line
decreases-loop-line l = length l.rest
