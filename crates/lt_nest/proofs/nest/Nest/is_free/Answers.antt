use Rattle.std.proofs.Common.{◌≡◌, ◌<◌, ap, sym, subst, ◌∙◌, true, length, deque_capacity}
use Rattle.lt_nest.specs.Forest.{is_open_transaction}
use Rattle.lt_nest.specs.Calls.{NestState}
use Rattle.lt_nest.proofs.FirstEntries.{last_read}
use Rattle.lt_nest.proofs.nest.Nest.is_free.Goals as goal

pub is_free-requires-clause-last : goal.is_free-requires-clause-last
is_free-requires-clause-last c = λ none.
    let st : NestState = record { transactions = c.self.inside.transactions.items; sets = c.self.inside.sets.items; grants = c.self.inside.grants.items; asked = c.self.inside.asked } in
    let opened : is_open_transaction st.transactions c.args.x ≡ true = ap (λ (s : NestState). is_open_transaction s.transactions c.args.x) c.self.view_is ∙ c.requires.open in
    let within : c.args.set < length st.sets = subst (λ (s : NestState). c.args.set < length s.sets) (sym c.self.view_is) c.requires.set in
    last_read st c.args.x c.args.set c.self.inside.tallies.items c.deref.result.now (deque_capacity c.self.inside.grants) c.has_children-last.result c.deref-2.result.now c.index.result.now
    c.self.invariant opened within c.deref.ensures.value c.has_children-last.ensures none c.deref-2.ensures.value c.index.ensures
