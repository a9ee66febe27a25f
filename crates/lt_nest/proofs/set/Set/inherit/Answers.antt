use Rattle.std.proofs.Common.{rules, ◌≡◌, ap, sym, ◌∙◌, List, None, position}
use Rattle.lt_nest.specs.declared.locks.Entry.{Entry}
use Rattle.lt_nest.specs.Locks.{LockSet, is_held_by}
use Rattle.lt_nest.proofs.ChangedSets.{inherit_nothing}
use Rattle.lt_nest.proofs.set.Set.inherit.Goals as goal

pub returns-then-is_none-clause-entries : goal.returns-then-is_none-clause-entries
returns-then-is_none-clause-entries c =
    let none : c.first_of.result ≡ None = search rules in
    let here : position (is_held_by c.args.x) c.args.self.now.entries ≡ None =
    ap (λ (s : LockSet). position (is_held_by c.args.x) s.entries) (sym c.self.view_is) ∙ ap (position (is_held_by c.args.x)) (sym c.deref.ensures.value) ∙ sym c.first_of.ensures.place ∙ none in
    ap (λ (entries : List Entry). record c.args.self.now { entries = entries }) (sym (inherit_nothing c.args.x c.args.parent c.args.self.now.entries here))
