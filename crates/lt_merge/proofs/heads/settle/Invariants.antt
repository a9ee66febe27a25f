use Rattle.std.proofs.Common.{◌≡◌, ◌-◌, ◌≤◌, ◌++◌, length, take, drop}
use Rattle.lt_merge.specs.Heads.{settled_heads}
use Rattle.lt_merge.proofs.heads.settle.Given as goal

abbrev pub invariant-loop-k : goal.invariant-loop-k
invariant-loop-k l = record {
  some : 1 ≤ l.k;
  settles : take (l.k - 1) l.heads.items ++ settled_heads (drop (l.k - 1) l.heads.items) ≡ settled_heads l.initial.heads.items;
}

abbrev pub decreases-loop-k : goal.decreases-loop-k
decreases-loop-k l = length l.heads.items - l.k
