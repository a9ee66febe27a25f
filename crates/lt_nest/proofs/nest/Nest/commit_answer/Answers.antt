use Rattle.std.proofs.Common.{rules, ◌≡◌, ap, sym, ◌∙◌, Bool, true, false, List, if◌then◌else◌, is_some, deque_capacity}
use Rattle.lt_nest.specs.declared.forest.Transaction.{Transaction}
use Rattle.lt_nest.specs.declared.answers.Ended.TheVariants.{Done, HasChildren}
use Rattle.lt_nest.specs.Forest.{is_open_transaction}
use Rattle.lt_nest.specs.Calls.{NestState, waiting}
use Rattle.lt_nest.proofs.TalliedNests.{commit_read}
use Rattle.lt_nest.proofs.nest.Nest.commit_answer.Goals as goal

pub returns-then-has_children : goal.returns-then-has_children
returns-then-has_children c =
    let st : NestState = record { transactions = c.self.inside.transactions.items; sets = c.self.inside.sets.items; grants = c.self.inside.grants.items; asked = c.self.inside.asked } in
    let told : c.is_open.result ≡ true = search rules in
    let opened : is_open_transaction st.transactions c.args.x ≡ true = ap (λ (ts : List Transaction). is_open_transaction ts c.args.x) (sym c.deref.ensures.value) ∙ sym c.is_open.ensures ∙ told in
    let waits : is_some (waiting c.args.self.now c.args.x) ≡ false = search rules in
    sym (ap (λ (b : Bool). if b then HasChildren else Done) c.if-has_children.true)
    ∙ commit_read st c.args.self.now c.args.x c.self.inside.tallies.items c.deref-else-is_some.result.now (deque_capacity c.self.inside.grants) c.has_children.result c.self.invariant c.self.view_is
    opened waits c.deref-else-is_some.ensures.value c.has_children.ensures

pub returns-else-has_children : goal.returns-else-has_children
returns-else-has_children c =
    let st : NestState = record { transactions = c.self.inside.transactions.items; sets = c.self.inside.sets.items; grants = c.self.inside.grants.items; asked = c.self.inside.asked } in
    let told : c.is_open.result ≡ true = search rules in
    let opened : is_open_transaction st.transactions c.args.x ≡ true = ap (λ (ts : List Transaction). is_open_transaction ts c.args.x) (sym c.deref.ensures.value) ∙ sym c.is_open.ensures ∙ told in
    let waits : is_some (waiting c.args.self.now c.args.x) ≡ false = search rules in
    sym (ap (λ (b : Bool). if b then HasChildren else Done) c.if-has_children.false)
    ∙ commit_read st c.args.self.now c.args.x c.self.inside.tallies.items c.deref-else-is_some.result.now (deque_capacity c.self.inside.grants) c.has_children.result c.self.invariant c.self.view_is
    opened waits c.deref-else-is_some.ensures.value c.has_children.ensures
