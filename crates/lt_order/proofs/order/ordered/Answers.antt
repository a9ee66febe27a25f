use Rattle.std.proofs.Common.{sym, ◌∙◌}
use Rattle.lt_spec.proofs.FirstBad.{first_bad_is_exact}
use Rattle.lt_order.proofs.Orders.{none_is, none_told}
use Rattle.lt_order.proofs.order.ordered.Goals as goal

pub returns : goal.returns
returns c = (
  λ told. (first_bad_is_exact c.args.script.now).0.0 (sym c.in_ok-bad.ensures.first ∙ none_is c.in_ok-bad.bad c.is_none.result c.is_none.ensures told),
  λ ordered. none_told c.in_ok-bad.bad c.is_none.result c.is_none.ensures (c.in_ok-bad.ensures.first ∙ (first_bad_is_exact c.args.script.now).0.1 ordered),
)
