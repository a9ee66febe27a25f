use Rattle.std.proofs.Common.{◌++◌, List, length}
use Rattle.lt_spec.specs.World.{Logged}
use Rattle.lt_merge.specs.Merging.{all_entries, Merges}
use Rattle.lt_merge.specs.Heads.{AreHeads, rests_of}
use Rattle.lt_merge.proofs.logs.merge_heads.Given as goal

abbrev pub invariant-loop-heads : goal.invariant-loop-heads
invariant-loop-heads l = record {
  are_heads : AreHeads l.logs l.heads.items;
  more : (run : List Logged) → Merges (rests_of l.logs l.heads.items) run → Merges l.logs (l.run.entries ++ run);
}

abbrev pub decreases-loop-heads : goal.decreases-loop-heads
decreases-loop-heads l = length (all_entries (rests_of l.logs l.heads.items))
