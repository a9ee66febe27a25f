use Rattle.std.proofs.Common.{◌<◌, ℕ, subst, arith}
use Rattle.lt_mail.specs.Opening.{IsFresh}
use Rattle.lt_mail.proofs.FlushLemmas.{first_fresh}
use Rattle.lt_tests.proofs.runner.one_runner.Goals as goal

pub new-requires-clause-mail : goal.new-requires-clause-mail
new-requires-clause-mail c =
    let some : 0 < c.nodes.result = omega (arith, c.nodes.ensures) in
    subst (λ (n : ℕ). IsFresh n 0 c.remove-mail.result) c.nodes.ensures.nodes
    (first_fresh c.nodes.result 1 _ _ c.in_ok-mails.ensures some c.remove-mail.ensures.value)
