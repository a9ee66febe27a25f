use Rattle.lt_letters.specs.Spelling.{OwedFits}
use Rattle.lt_letters.proofs.Passes.{FirstPass}
use Rattle.lt_letters.proofs.fitting.all_owed_fit.Given as goal

abbrev pub invariant-loop-k : goal.invariant-loop-k
invariant-loop-k l = FirstPass OwedFits l.k l.owed
