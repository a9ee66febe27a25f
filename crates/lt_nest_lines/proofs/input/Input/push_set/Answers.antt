use Rattle.std.proofs.Common.{◌<◌, length, sym, subst}
use Rattle.lt_nest_lines.specs.declared.limits.TheConstants.{MAX_SETS, MAX_LINES}
use Rattle.lt_nest_lines.specs.Input.{InputData, line_count}
use Rattle.lt_nest_lines.proofs.SetsAsked.{set_added}
use Rattle.lt_nest_lines.proofs.input.Input.push_set.Goals as goal

pub invariant_of-self-2 : goal.invariant_of-self-2
invariant_of-self-2 c =
    let d : InputData = record { sets = c.self.inside.sets.items; transactions = c.self.inside.transactions; orders = c.self.inside.orders.items } in
    let few = subst (λ (v : InputData). length v.sets < MAX_SETS) (sym c.self.view_is) c.requires.few in
    let lines = subst (λ (v : InputData). line_count v < MAX_LINES) (sym c.self.view_is) c.requires.lines in
    rw (c.in_ok-push.ensures.items, c.in_ok-name.ensures) (set_added d c.args.name.now c.self.invariant few lines)
