use Rattle.std.proofs.Common.{◌≡◌, arith}
use Rattle.lt_live_serve.proofs.Completed.{count_own, count_other}
use Rattle.lt_live_serve.proofs.over.count_at.Goals as goal

pub returns-then-other-client-clause-count : goal.returns-then-other-client-clause-count
returns-then-other-client-clause-count c =
    let own : c.command-other.result.0 ≡ c.args.client = omega (arith, c.if-other-client.true) in
    count_own c.args.script.now c.args.client c.args.place c.command-other.result c.command-other.ensures own

pub returns-else-other-client-clause-count : goal.returns-else-other-client-clause-count
returns-else-other-client-clause-count c =
    let same = count_other c.args.script.now c.args.client c.args.place c.command-other.result c.command-other.ensures
    (λ e. omega (arith, e, c.if-other-client.false)) in
    omega (arith, same)
