use Rattle.std.proofs.Common.{length, ◌-◌}
use Rattle.lt_nest_lines.specs.Tags.{IsNoneBefore}
use Rattle.lt_nest_lines.proofs.names.place_from.Given as goal

abbrev pub invariant-loop-k : goal.invariant-loop-k
invariant-loop-k l = IsNoneBefore l.k l.names l.word

abbrev pub decreases-loop-k : goal.decreases-loop-k
decreases-loop-k l = length l.names - l.k
