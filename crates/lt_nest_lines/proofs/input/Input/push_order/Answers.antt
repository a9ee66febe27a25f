use Rattle.std.proofs.Common.{◌<◌, length, sym, subst}
use Rattle.lt_nest_lines.specs.declared.limits.TheConstants.{MAX_LINES}
use Rattle.lt_nest_lines.specs.Input.{InputData, AsksWithin, line_count}
use Rattle.lt_nest_lines.proofs.SetsAsked.{order_added}
use Rattle.lt_nest_lines.proofs.input.Input.push_order.Goals as goal

pub invariant_of-self-2 : goal.invariant_of-self-2
invariant_of-self-2 c =
    let d : InputData = record { sets = c.self.inside.sets.items; transactions = c.self.inside.transactions; orders = c.self.inside.orders.items } in
    let lines = subst (λ (v : InputData). line_count v < MAX_LINES) (sym c.self.view_is) c.requires.lines in
    let within = subst (λ (v : InputData). AsksWithin (length v.sets) c.args.order) (sym c.self.view_is) c.requires.within in
    rw c.in_ok-push.ensures.items (order_added d c.args.order c.self.invariant lines within)
