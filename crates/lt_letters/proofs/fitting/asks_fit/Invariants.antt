use Rattle.lt_letters.specs.Spelling.{AskFits}
use Rattle.lt_letters.proofs.Passes.{FirstPass}
use Rattle.lt_letters.proofs.fitting.asks_fit.Given as goal

abbrev pub invariant-loop-k : goal.invariant-loop-k
invariant-loop-k l = FirstPass AskFits l.k l.asks
