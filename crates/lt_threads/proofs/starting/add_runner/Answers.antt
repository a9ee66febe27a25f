-- The first mail that is left is that of the node.
use Rattle.std.proofs.Common.{List, ◌+◌, sym, subst, remove}
use Rattle.lt_mail.specs.declared.mail.Mail.{Mail}
use Rattle.lt_mail.specs.Opening.{IsFresh}
use Rattle.lt_runner.specs.declared.parts.Parts.{Parts}
use Rattle.lt_runner.specs.Ready.{StartsWith}
use Rattle.lt_threads.specs.Pushes.{Starting}
use Rattle.lt_threads.proofs.Starts.{next_fresh, one_more}
use Rattle.lt_threads.proofs.starting.add_runner.Goals as goal

pub first_runner-requires-clause-mail : goal.first_runner-requires-clause-mail
first_runner-requires-clause-mail c =
    subst (λ (mail : Mail). IsFresh c.args.script.now.nodes c.args.node mail) (sym c.remove-mail.ensures.value)
    (next_fresh c.args.script.now c.args._capacity c.args.limit c.args.node c.args.mails.now.items c.args.runners.now.items c.remove-mail.result
    c.requires.starting c.requires.node)

pub returns-clause-starting : goal.returns-clause-starting
returns-clause-starting c =
    subst (λ (mails : List Mail). Starting c.args.script.now c.args._capacity c.args.limit (c.args.node + 1) mails c.push.new.self.items)
    (sym c.remove-mail.ensures.items)
    (subst (λ (runners : List Parts). Starting c.args.script.now c.args._capacity c.args.limit (c.args.node + 1) (remove c.args.mails.now.items 0) runners)
    (sym c.in_ok-push.ensures.items)
    (one_more c.args.script.now c.args._capacity c.args.limit c.args.node c.args.mails.now.items c.args.runners.now.items c.remove-mail.result
    c.in_ok-runner.runner c.requires.starting c.requires.node
    (subst (λ (mail : Mail). StartsWith c.args.script.now c.args.node mail c.args.limit c.in_ok-runner.runner) c.remove-mail.ensures.value
    c.in_ok-runner.ensures.starts) c.in_ok-runner.ensures.all))
