use Rattle.std.proofs.Common.{subst, sym, ap}
use Rattle.lt_table.specs.TableData.{AreTold}
use Rattle.lt_table.proofs.table.Table.note_told.Goals as goal

pub invariant_of-self : goal.invariant_of-self
invariant_of-self c = (
  c.self.invariant.0,
  (
    c.self.invariant.1.0,
    (
      c.self.invariant.1.1.0,
      (subst (λ entries. AreTold c.args.modes entries) (sym (ap (λ t. t.entries) c.self.view_is)) c.requires, c.self.invariant.1.1.1.1),
    ),
  ),
)
