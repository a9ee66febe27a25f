use Rattle.std.proofs.Common.{rules, ◌≡◌, ◌<◌, length, sym, subst}
use Rattle.lt_nest_lines.specs.declared.limits.TheConstants.{MAX_TRANSACTIONS, MAX_LINES}
use Rattle.lt_nest_lines.specs.Input.{InputData, AsksWithin, line_count}
use Rattle.lt_nest_lines.proofs.SetsAsked.{transaction_added, transaction_named}
use Rattle.lt_nest_lines.proofs.input.Input.push_transaction.Goals as goal

pub invariant_of-self-in_err-push-2 : goal.invariant_of-self-in_err-push-2
invariant_of-self-in_err-push-2 c =
    let d : InputData = record { sets = c.self.inside.sets.items; transactions = c.self.inside.transactions; orders = c.self.inside.orders.items } in
    let few = subst (λ (v : InputData). length v.transactions < MAX_TRANSACTIONS) (sym c.self.view_is) c.requires.few in
    let same : c.push-2.new.self.items ≡ c.self.inside.orders.items = search rules in
    rw (same, c.in_ok-push.ensures.pushed) (transaction_named d c.args.name.now c.self.invariant few)

pub invariant_of-self-2 : goal.invariant_of-self-2
invariant_of-self-2 c =
    let d : InputData = record { sets = c.self.inside.sets.items; transactions = c.self.inside.transactions; orders = c.self.inside.orders.items } in
    let few = subst (λ (v : InputData). length v.transactions < MAX_TRANSACTIONS) (sym c.self.view_is) c.requires.few in
    let lines = subst (λ (v : InputData). line_count v < MAX_LINES) (sym c.self.view_is) c.requires.lines in
    let within = subst (λ (v : InputData). AsksWithin (length v.sets) c.args.order) (sym c.self.view_is) c.requires.within in
    rw (c.in_ok-push-2.ensures.items, c.in_ok-push.ensures.pushed) (transaction_added d c.args.name.now c.args.order c.self.invariant few lines within)
