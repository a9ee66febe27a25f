use Rattle.std.proofs.Common.{◌<◌, ℕ, subst, arith}
use Rattle.lt_mail.specs.Opening.{IsFresh}
use Rattle.lt_mail.proofs.FlushLemmas.{first_fresh, second_fresh}
use Rattle.lt_runner.proofs.Fetched.{two_beside}
use Rattle.lt_tests.proofs.runner.two_runners.Goals as goal

pub new-requires-clause-mail : goal.new-requires-clause-mail
new-requires-clause-mail c =
    let some : 0 < c.nodes.result = omega (arith, c.requires.nodes, c.nodes.ensures.nodes) in
    subst (λ (n : ℕ). IsFresh n 0 c.remove-mail.result) c.nodes.ensures.nodes
    (first_fresh c.nodes.result 4 _ _ c.in_ok-mails.ensures some c.remove-mail.ensures.value)

pub new-requires-2-clause-mail : goal.new-requires-2-clause-mail
new-requires-2-clause-mail c =
    let two : 1 < c.nodes.result = omega (arith, c.requires.nodes, c.nodes.ensures.nodes) in
    subst (λ (n : ℕ). IsFresh n 1 c.remove-mail-2.result) c.nodes.ensures.nodes
    (second_fresh c.nodes.result 4 _ _ _ c.in_ok-mails.ensures two c.remove-mail.ensures.items c.remove-mail-2.ensures.value)

pub returns : goal.returns
returns c =
    let two : 1 < c.nodes.result = omega (arith, c.requires.nodes, c.nodes.ensures.nodes) in
    let some : 0 < c.nodes.result = omega (arith, two) in
    two_beside c.nodes.result 4 c.args.limit c.args.script.now _ _ _ _ _ _ c.in_ok-mails.ensures two c.remove-mail.ensures.value c.remove-mail.ensures.items
    c.remove-mail-2.ensures.value c.in_ok-first.ensures.starts c.in_ok-second.ensures.starts (first_fresh c.nodes.result 4 _ _ c.in_ok-mails.ensures some c.remove-mail.ensures.value)
    (second_fresh c.nodes.result 4 _ _ _ c.in_ok-mails.ensures two c.remove-mail.ensures.items c.remove-mail-2.ensures.value)
