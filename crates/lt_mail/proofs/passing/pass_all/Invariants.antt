-- The loop over the letters that wait.
use Rattle.lt_mail.specs.Passing.{Passing}
use Rattle.lt_mail.proofs.passing.pass_all.Given as goal

abbrev pub invariant-loop-left : goal.invariant-loop-left
invariant-loop-left l = record {
  passing : Passing l.fn.only l.initial.outs.items l.initial.waiting.items l.outs.items l.waiting.items l.held l.left;
}

abbrev pub decreases-loop-left : goal.decreases-loop-left
decreases-loop-left l = l.left
