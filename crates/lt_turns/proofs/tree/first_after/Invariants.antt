use Rattle.lt_turns.specs.Turns.{IsFirstAfter}
use Rattle.lt_turns.proofs.tree.first_after.Given as goal

abbrev pub invariant-loop-leaf : goal.invariant-loop-leaf
invariant-loop-leaf l = IsFirstAfter l.ranks l.here l.leaf l.first
