use Rattle.std.proofs.Common.{rules, ◌≡◌, ◌+◌, ◌∙◌, List, [], slice_get, ap, sym, subst, arith}
use Rattle.lt_spec.specs.World.{Logged}
use Rattle.lt_modes.specs.Script.{ScriptData}
use Rattle.lt_journal.specs.declared.line.Line.{Line}
use Rattle.lt_journal.specs.RunLines.{line_of_event}
use Rattle.lt_journal.specs.Grammar.{read_line}
use Rattle.lt_law_journals.specs.Checking.{by_move, by_due}
use Rattle.lt_checker.specs.Checker.{IsPlace, LedTo}
use Rattle.lt_checker.specs.Due.{last_events, due_lines}
use Rattle.lt_checker.proofs.Moving.{due_place}
use Rattle.lt_checker.proofs.DueLines.{event_due, later_first, none_left, led_by_due}
use Rattle.lt_checker.proofs.following.follow.Goals as goal

pub overflow_add-due : goal.overflow_add-due
overflow_add-due c = let few = c.in-Some.ensures.few in omega (arith, few)

pub returns-in-Some-clause-place : goal.returns-in-Some-clause-place
returns-in-Some-clause-place c = λ good.
    let script = c.args.wording.now in
    let world = c.args.world.now in
    let told = c.args.due.now.told in
    let later = c.args.due.now.later.items in
    let event = c.in-Some.event in
    let at = ap (λ (r : List Logged). slice_get (last_events r) told) (sym c.run.ensures) ∙ (sym c.last_event.ensures.event ∙ c.in-Some.is) in
    due_place script world (due_lines script world.run told later) (due_lines script world.run (told + 1) later) (line_of_event script.version event)
    (event_due script world.run told later event at) c.requires

pub returns-in-Some-clause-led : goal.returns-in-Some-clause-led
returns-in-Some-clause-led c =
    let script = c.args.wording.now in
    let run = c.args.world.now.run in
    let told = c.args.due.now.told in
    let later = c.args.due.now.later.items in
    let event = c.in-Some.event in
    let at = ap (λ (r : List Logged). slice_get (last_events r) told) (sym c.run.ensures) ∙ (sym c.last_event.ensures.event ∙ c.in-Some.is) in
    led_by_due script run (due_lines script run told later) (due_lines script run (told + 1) later) (line_of_event script.version event) c.args.line.now
    c.in_ok-is_event_line.field-0 (event_due script run told later event at) c.in_ok-is_event_line.ensures

pub next_move-requires-clause-place : goal.next_move-requires-clause-place
next_move-requires-clause-place c =
    let script = c.args.wording.now in
    let world = c.args.world.now in
    let told = c.args.due.now.told in
    let later = c.args.due.now.later.items in
    let at = ap (λ (r : List Logged). slice_get (last_events r) told) (sym c.run.ensures) ∙ (sym c.last_event.ensures.event ∙ c.in_default.is) in
    let none : later ≡ [] = search rules in
    subst (λ (due : List Line). IsPlace script world due) (none_left script world.run told later at none) c.requires

pub returns-in_default-pop_front-clause-led : goal.returns-in_default-pop_front-clause-led
returns-in_default-pop_front-clause-led c =
    let script = c.args.wording.now in
    let run = c.args.world.now.run in
    let told = c.args.due.now.told in
    let later = c.args.due.now.later.items in
    let line = c.args.line.now in
    let good = c.in_ok-next_move.field-0 in
    let next = c.next_move.new.world.run in
    let due = due_lines script next c.next_move.new.due.told c.next_move.new.due.later.items in
    let at = ap (λ (r : List Logged). slice_get (last_events r) told) (sym c.run.ensures) ∙ (sym c.last_event.ensures.event ∙ c.in_default.is) in
    let none : later ≡ [] = search rules in
    let said : c.read_line-told.result ≡ read_line script line = c.read_line-told.ensures ∙ ap (λ (s : ScriptData). read_line s line) c.script.ensures in
    subst (λ (d : List Line). LedTo (by_due script run d line) good next due) (sym (none_left script run told later at none))
    (subst (λ (x : Line). LedTo (by_move script run x) good next due) said c.in_ok-next_move.ensures.led)

pub returns-clause-place : goal.returns-clause-place
returns-clause-place c = λ good.
    let script = c.args.wording.now in
    let world = c.args.world.now in
    let told = c.args.due.now.told in
    let later = c.args.due.now.later.items in
    let rest = c.pop_front.new.self.items in
    let x = c.in-Some-pop_front.expected in
    let at = ap (λ (r : List Logged). slice_get (last_events r) told) (sym c.run.ensures) ∙ (sym c.last_event.ensures.event ∙ c.in_default.is) in
    due_place script world (due_lines script world.run told later) (due_lines script world.run told rest) x
    (later_first script world.run told later rest x at c.in-Some-pop_front.ensures.items) c.requires

pub returns-clause-led : goal.returns-clause-led
returns-clause-led c =
    let script = c.args.wording.now in
    let run = c.args.world.now.run in
    let told = c.args.due.now.told in
    let later = c.args.due.now.later.items in
    let rest = c.pop_front.new.self.items in
    let x = c.in-Some-pop_front.expected in
    let at = ap (λ (r : List Logged). slice_get (last_events r) told) (sym c.run.ensures) ∙ (sym c.last_event.ensures.event ∙ c.in_default.is) in
    led_by_due script run (due_lines script run told later) (due_lines script run told rest) x c.args.line.now c.in_ok-is_line.field-0
    (later_first script run told later rest x at c.in-Some-pop_front.ensures.items) c.in_ok-is_line.ensures
