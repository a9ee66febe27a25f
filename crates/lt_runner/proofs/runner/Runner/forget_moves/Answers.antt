-- Only what is forgotten is another.
use Rattle.lt_runner.proofs.Forgotten.{kept_forgotten}
use Rattle.lt_runner.proofs.runner.Runner.forget_moves.Goals as goal

pub invariant_of-self : goal.invariant_of-self
invariant_of-self c =
    kept_forgotten c.as_mut.result.now c.forget.new.self (rw c.as_mut.ensures.value c.self.invariant) c.forget.ensures.entries
