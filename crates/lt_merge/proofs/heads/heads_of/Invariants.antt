use Rattle.std.proofs.Common.{◌≤◌, length}
use Rattle.lt_merge.specs.Heads.{Begins}
use Rattle.lt_merge.proofs.heads.heads_of.Given as goal

abbrev pub invariant-loop-log : goal.invariant-loop-log
invariant-loop-log l = record {
  inside : l.log ≤ length l.logs;
  begun : Begins l.logs l.log l.heads.items;
}

abbrev pub decreases-loop-log : goal.decreases-loop-log
decreases-loop-log l = l.log
