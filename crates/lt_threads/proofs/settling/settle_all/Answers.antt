-- Runners work one after the other.
use Rattle.std.proofs.Common.{arith}
use Rattle.lt_runner.specs.Kept.{Grew}
use Rattle.lt_threads.proofs.Each.{each_join, each_len}
use Rattle.lt_threads.proofs.Pushing.{grew_join}
use Rattle.lt_threads.proofs.SharedRunners.{next_settled, all_settled}
use Rattle.lt_threads.proofs.settling.settle_all.Goals as goal

pub returns-then-settle_at-clause-grew : goal.returns-then-settle_at-clause-grew
returns-then-settle_at-clause-grew g c =
    each_join Grew grew_join c.args.runners.now.items c.loop-place.runners.items c.settle_at.new.runners.items c.loop-place.invariant.grew c.settle_at.ensures.grew

pub loop-place-preserved : goal.loop-place-preserved
loop-place-preserved g c =
    let grew = each_join Grew grew_join c.args.runners.now.items c.loop-place.runners.items c.settle_at.new.runners.items c.loop-place.invariant.grew c.settle_at.ensures.grew in
    record {
      grew = grew;
      count = each_len Grew c.args.runners.now.items c.settle_at.new.runners.items grew;
      settled =
          next_settled c.args.patience c.loop-place.place c.loop-place.runners.items c.settle_at.new.runners.items c.loop-place.invariant.settled
          c.settle_at.ensures.others (λ p there. c.settle_at.ensures.settled p c.if-settle_at.false there);
    }

pub returns-clause-settled : goal.returns-clause-settled
returns-clause-settled g c = λ ended.
    all_settled c.args.patience c.loop-place.place c.loop-place.runners.items (omega (arith, c.loop-place.invariant.count, c.loop-place-test.false))
    c.loop-place.invariant.settled
