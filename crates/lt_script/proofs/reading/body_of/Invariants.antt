use Rattle.std.proofs.Common.{◌≡◌, ◌≤◌, ◌+◌, length}
use Rattle.lt_text.specs.Text.{lines}
use Rattle.lt_script.specs.Reading.{script_body}
use Rattle.lt_script.proofs.reading.body_of.Given as goal

-- the lines so far are skipped
abbrev pub invariant-loop-line : goal.invariant-loop-line
invariant-loop-line l = record {
  same : script_body (lines l.bytes) 1 ≡ script_body (lines l.rest) l.number;
  count : l.number + length l.rest ≤ length l.bytes + 1;
}

abbrev pub decreases-loop-line : goal.decreases-loop-line
decreases-loop-line l = length l.rest
