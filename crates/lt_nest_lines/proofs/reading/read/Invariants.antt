use Rattle.std.proofs.Common.{◌≡◌, ◌≤◌, ◌+◌, length}
use Rattle.lt_text.specs.Text.{lines}
use Rattle.lt_nest_lines.specs.Input.{read_lines_from, input_of}
use Rattle.lt_nest_lines.proofs.ReadLines.{HasRead}
use Rattle.lt_nest_lines.proofs.reading.read.Given as goal

-- the lines that are left make of the input so far what all lines make of none, and those before them are good
abbrev pub invariant-loop-line : goal.invariant-loop-line
invariant-loop-line l = record {
  same : read_lines_from (lines l.rest) l.number l.input ≡ input_of l.bytes;
  read : HasRead (lines l.bytes) (lines l.rest) l.input;
  count : l.number + length l.rest ≤ length l.bytes + 1;
}

abbrev pub decreases-loop-line : goal.decreases-loop-line
decreases-loop-line l = length l.rest
