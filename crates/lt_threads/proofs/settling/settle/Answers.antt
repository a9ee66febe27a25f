-- All runners worked, and some log is full or none is.
use Rattle.std.proofs.Common.{sym, ap, ◌∙◌}
use Rattle.lt_threads.specs.Settled.{some_full}
use Rattle.lt_threads.proofs.settling.settle.Goals as goal

pub returns-then-some_full-clause-ends : goal.returns-then-some_full-clause-ends
returns-then-some_full-clause-ends g c = (
  c.settle_all.ensures.settled c.if-settle_all.false,
  sym (ap some_full c.deref.ensures.value) ∙ (sym c.some_full.ensures ∙ c.if-some_full.true),
)

pub returns-else-some_full-clause-ends : goal.returns-else-some_full-clause-ends
returns-else-some_full-clause-ends g c = (
  c.settle_all.ensures.settled c.if-settle_all.false,
  sym (ap some_full c.deref.ensures.value) ∙ (sym c.some_full.ensures ∙ c.if-some_full.false),
)
