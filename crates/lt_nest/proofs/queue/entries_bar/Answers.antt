use Rattle.std.proofs.Common.{sym, ◌∙◌}
use Rattle.lt_nest.specs.declared.locks.Entry.{Entry}
use Rattle.lt_nest.specs.Forest.{is_own, entry_conflicts}
use Rattle.lt_nest.specs.Locks.{missing_entry}
use Rattle.lt_nest.proofs.OpenChildren.{first_bars, none_bars}
use Rattle.lt_nest.proofs.queue.entries_bar.Goals as goal

pub returns-then-not-is_own : goal.returns-then-not-is_own
returns-then-not-is_own c =
    rw c.if-not-is_own.true
    (sym (first_bars (entry_conflicts c.args.mode) (λ (entry : Entry). is_own c.args.transactions.now entry.owner c.args.x) c.args.entries.now c.in-Some.k missing_entry (sym c.entry_in_conflict.ensures.place ∙ c.in-Some.is) (sym c.is_own.ensures ∙ c.if-not-is_own.true)))

pub returns-in-None : goal.returns-in-None
returns-in-None c =
    sym (none_bars (entry_conflicts c.args.mode) (λ (entry : Entry). is_own c.args.transactions.now entry.owner c.args.x) c.args.entries.now (sym c.entry_in_conflict.ensures.place ∙ c.in-None.is))
