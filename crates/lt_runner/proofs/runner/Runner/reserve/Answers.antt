-- Only memory is another.
use Rattle.std.proofs.Common.{rules, ◌≡◌, subst}
use Rattle.lt_runner.specs.Kept.{IsFlushed}
use Rattle.lt_runner.proofs.TurnLemmas.{flushed_later}
use Rattle.lt_runner.proofs.runner.Runner.reserve.Goals as goal

pub returns-clause-flushed : goal.returns-clause-flushed
returns-clause-flushed c flushed =
    let same : c.args.self.now ≡ c.as_mut.result.now = search rules in
    flushed_later c.as_mut.result.now c.reserve.new.self c.reserve.ensures.outs (subst IsFlushed same flushed)
