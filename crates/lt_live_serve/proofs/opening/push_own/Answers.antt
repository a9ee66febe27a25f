use Rattle.std.proofs.Common.{◌≡◌, arith}
use Rattle.lt_live_serve.proofs.Completed.{pushed_own, pushed_other}
use Rattle.lt_live_serve.proofs.opening.push_own.Goals as goal

pub returns-in_ok-push : goal.returns-in_ok-push
returns-in_ok-push c =
    let own : c.command-other.result.0 ≡ c.args.client = omega (arith, c.if-other-client.true) in
    pushed_own c.args.script.now c.args.client c.args.place c.command-other.result c.args.commands.now.items _ c.command-other.ensures own c.requires.before
    c.in_ok-push.ensures.items

pub returns-else-other-client : goal.returns-else-other-client
returns-else-other-client c =
    pushed_other c.args.script.now c.args.client c.args.place c.command-other.result c.args.commands.now.items c.command-other.ensures
    (λ e. omega (arith, e, c.if-other-client.false)) c.requires.before
