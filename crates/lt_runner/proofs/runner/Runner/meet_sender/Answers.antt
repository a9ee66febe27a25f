-- It is a runner still.
use Rattle.std.proofs.Common.{ap}
use Rattle.lt_mail.specs.Words.{on_out, sent_by}
use Rattle.lt_runner.proofs.Fetched.{kept_met}
use Rattle.lt_runner.proofs.runner.Runner.meet_sender.Goals as goal

pub invariant_of-self : goal.invariant_of-self
invariant_of-self c =
    kept_met c.as_mut.result.now c.beside_at.new.into (rw c.as_mut.ensures.value c.self.invariant) c.beside_at.ensures.in_ends
    (λ node. ap (on_out sent_by) (c.beside_at.ensures.in_outs node)) c.beside_at.ensures.taken
