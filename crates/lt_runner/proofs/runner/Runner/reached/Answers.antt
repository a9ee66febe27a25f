-- What was asked for isn't the mail.
use Rattle.std.proofs.Common.{rules, ◌≡◌, subst}
use Rattle.lt_runner.specs.Kept.{IsFlushed}
use Rattle.lt_runner.proofs.KeptLemmas.{kept_asked}
use Rattle.lt_runner.proofs.runner.Runner.reached.Goals as goal

pub invariant_of-self : goal.invariant_of-self
invariant_of-self c = kept_asked c.as_mut-parts.result.now (rw c.as_mut-parts.ensures.value c.self.invariant)

pub returns-clause-flushed : goal.returns-clause-flushed
returns-clause-flushed c flushed =
    let same : c.args.self.now ≡ c.as_mut-parts.result.now = search rules in
    subst IsFlushed same flushed
