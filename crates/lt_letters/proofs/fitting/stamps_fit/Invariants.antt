use Rattle.lt_letters.specs.Spelling.{StampFits}
use Rattle.lt_letters.proofs.Passes.{FirstPass}
use Rattle.lt_letters.proofs.fitting.stamps_fit.Given as goal

abbrev pub invariant-loop-k : goal.invariant-loop-k
invariant-loop-k l = FirstPass StampFits l.k l.stamps
