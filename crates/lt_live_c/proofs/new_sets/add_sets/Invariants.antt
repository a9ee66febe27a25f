-- The first sets are added.
use Rattle.lt_live_c.proofs.AddedSets.{Adding}
use Rattle.lt_live_c.proofs.new_sets.add_sets.Given as goal

abbrev pub invariant-loop-place : goal.invariant-loop-place
invariant-loop-place l = Adding l.place l.fn.sets l.initial.script l.script
