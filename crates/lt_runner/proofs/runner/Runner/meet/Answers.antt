-- Both are runners still.
use Rattle.std.proofs.Common.{ap}
use Rattle.lt_mail.specs.Words.{on_in, on_out, taken, sent_by}
use Rattle.lt_runner.proofs.Fetched.{kept_met}
use Rattle.lt_runner.proofs.runner.Runner.meet.Goals as goal

pub invariant_of-self : goal.invariant_of-self
invariant_of-self c =
    kept_met c.as_mut.result.now c.beside.new.out (rw c.as_mut.ensures.value c.self.invariant) c.beside.ensures.out_ends c.beside.ensures.sent
    (λ node. ap (on_in taken) (c.beside.ensures.out_ins node))

pub invariant_of-taker : goal.invariant_of-taker
invariant_of-taker c =
    kept_met c.as_mut-2.result.now c.beside.new.into (rw c.as_mut-2.ensures.value c.taker.invariant) c.beside.ensures.in_ends
    (λ node. ap (on_out sent_by) (c.beside.ensures.in_outs node)) c.beside.ensures.taken
