use Rattle.std.proofs.Common.{take}
use Rattle.lt_counts.specs.Counting.{AddsLines}
use Rattle.lt_counts.proofs.counting.count_lines.Given as goal

abbrev pub invariant-loop-place : goal.invariant-loop-place
invariant-loop-place l = AddsLines (take l.place l.lines) l.initial.counts l.counts
