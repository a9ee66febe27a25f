-- It is a runner still.
use Rattle.std.proofs.Common.{ap}
use Rattle.lt_mail.specs.Words.{on_in, taken}
use Rattle.lt_runner.proofs.Fetched.{kept_met}
use Rattle.lt_runner.proofs.runner.Runner.meet_taker.Goals as goal

pub invariant_of-self : goal.invariant_of-self
invariant_of-self c =
    kept_met c.as_mut.result.now c.beside_at.new.out (rw c.as_mut.ensures.value c.self.invariant) c.beside_at.ensures.out_ends
    c.beside_at.ensures.sent (λ node. ap (on_in taken) (c.beside_at.ensures.out_ins node))
