use Rattle.std.proofs.Common.{rules, ◌≡◌, ◌∙◌, ◌==◌, ℕ, length, ap, sym, deque_len}
use Rattle.lt_checker.proofs.DueLines.{event_left, later_left, none_left, no_lines_left}
use Rattle.lt_checker.proofs.due.Due.is_none.Goals as goal

pub returns-in-Some-clause-some : goal.returns-in-Some-clause-some
returns-in-Some-clause-some c = λ script no.
    event_left script c.args.run.now.entries c.args.self.now.told c.args.self.now.later.items c.in-Some._event (sym c.last_event.ensures.event ∙ c.in-Some.is)

pub returns-clause-none : goal.returns-clause-none
returns-clause-none c = λ script yes.
    let size : length c.args.self.now.later.items ≡ deque_len c.args.self.now.later = search rules in
    none_left script c.args.run.now.entries c.args.self.now.told c.args.self.now.later.items (sym c.last_event.ensures.event ∙ c.in_default.is)
    (no_lines_left c.args.self.now.later.items (ap (λ (n : ℕ). n == 0) size ∙ (sym c.is_empty.ensures ∙ yes)))

pub returns-clause-some : goal.returns-clause-some
returns-clause-some c = λ script no.
    let size : length c.args.self.now.later.items ≡ deque_len c.args.self.now.later = search rules in
    later_left script c.args.run.now.entries c.args.self.now.told c.args.self.now.later.items (sym c.last_event.ensures.event ∙ c.in_default.is)
    (ap (λ (n : ℕ). n == 0) size ∙ (sym c.is_empty.ensures ∙ no))
