-- The first sets are added.
use Rattle.lt_live_c.proofs.AddedKeys.{AddingKeys}
use Rattle.lt_live_c.proofs.key_sets.add_key_sets.Given as goal

abbrev pub invariant-loop-k : goal.invariant-loop-k
invariant-loop-k l = AddingKeys l.fn.members l.k l.fn.count l.initial.script l.script
