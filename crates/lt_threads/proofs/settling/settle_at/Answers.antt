-- One runner worked, and the others stay.
use Rattle.std.proofs.Common.{subst}
use Rattle.lt_runner.specs.declared.parts.Parts.{Parts}
use Rattle.lt_runner.specs.Kept.{Grew}
use Rattle.lt_threads.proofs.Each.{set_here, set_other}
use Rattle.lt_threads.proofs.SharedRunners.{one_grew, one_settled}
use Rattle.lt_threads.proofs.settling.settle_at.Goals as goal

pub returns-clause-grew : goal.returns-clause-grew
returns-clause-grew g c = one_grew c.args.place c.args.runners.now.items c.index_mut.result.now c.settle_one.new.runner c.requires
    (subst (λ (p : Parts). Grew p c.settle_one.new.runner) c.index_mut.ensures.value c.settle_one.ensures.grew)

pub returns-clause-others : goal.returns-clause-others
returns-clause-others g c = λ k apart. set_other c.args.runners.now.items c.args.place c.settle_one.new.runner k apart

pub returns-clause-settled : goal.returns-clause-settled
returns-clause-settled g c = λ p ends there.
    one_settled c.args.patience c.args.place c.args.runners.now.items c.settle_one.new.runner p c.requires there (c.settle_one.ensures.settled ends)

pub returns-clause-short : goal.returns-clause-short
returns-clause-short g c = λ short.
    (c.args.place, c.settle_one.new.runner, set_here c.args.runners.now.items c.args.place c.settle_one.new.runner c.requires, c.settle_one.ensures.short short)
