use Rattle.std.proofs.Common.{◌≡◌, ◌≤◌, ◌+◌, ◌++◌, length}
use Rattle.lt_journal.specs.Grammar.{journal_of}
use Rattle.lt_journal.proofs.reading.read.Given as goal

-- the lines read so far, and those of the bytes that are left; each line took a byte at least
abbrev pub invariant-loop-line : goal.invariant-loop-line
invariant-loop-line l = record {
  read : l.lines.items ++ journal_of l.script l.rest ≡ journal_of l.script l.bytes;
  few : length l.lines.items + length l.rest ≤ length l.bytes;
}

abbrev pub decreases-loop-line : goal.decreases-loop-line
decreases-loop-line l = length l.rest
