use Rattle.std.proofs.Common.{rules, ◌≡◌, ◌++◌, ◌∷◌, ◌∙◌, ◌==◌, ◌+◌, ℕ, List, [], slice_get, length, deque_len, ap, sym, subst}
use Rattle.lt_modes.specs.Script.{ScriptData}
use Rattle.lt_spec.specs.World.{Logged}
use Rattle.lt_journal.specs.declared.line.Line.{Line}
use Rattle.lt_journal.specs.LineFits.{FitsLine}
use Rattle.lt_journal.specs.RunLines.{line_of_event}
use Rattle.lt_law_journals.specs.Checking.{written}
use Rattle.lt_checker.specs.Checker.{IsPlace}
use Rattle.lt_checker.specs.Due.{last_events, due_lines}
use Rattle.lt_checker.proofs.Moving.{due_place}
use Rattle.lt_checker.proofs.DueLines.{event_due, none_left, no_lines_left}
use Rattle.lt_checker.proofs.FirstTaken.{begins_due, begins_written, led_as_due, led_as_move, some_end}
use Rattle.lt_checker.proofs.following.follow_first.Goals as goal

pub returns-in-Some-clause-place : goal.returns-in-Some-clause-place
returns-in-Some-clause-place c = λ good.
    let script = c.args.wording.now in
    let world = c.args.world.now in
    let told = c.args.due.now.told in
    let later = c.args.due.now.later.items in
    let event = c.in-Some.event in
    let at = ap (λ (r : List Logged). slice_get (last_events r) told) (sym c.run.ensures) ∙ (sym c.last_event.ensures.event ∙ c.in-Some.is) in
    due_place script world (due_lines script world.run told later) (due_lines script world.run (told + 1) later) (line_of_event script.version event)
    (event_due script world.run told later event at) c.requires

pub returns-in-Some-clause-led : goal.returns-in-Some-clause-led
returns-in-Some-clause-led c =
    let script = c.args.wording.now in
    let world = c.args.world.now in
    let told = c.args.due.now.told in
    let later = c.args.due.now.later.items in
    let event = c.in-Some.event in
    let x = line_of_event script.version event in
    let at = ap (λ (r : List Logged). slice_get (last_events r) told) (sym c.run.ensures) ∙ (sym c.last_event.ensures.event ∙ c.in-Some.is) in
    let due = event_due script world.run told later event at in (
      written script x,
      begins_due script world (due_lines script world.run told later) (due_lines script world.run (told + 1) later) x c.args.bytes.now c.in-Some-after_event_line.later.now due
          c.requires c.in-Some-after_event_line.ensures,
      led_as_due script world.run (due_lines script world.run told later) (due_lines script world.run (told + 1) later) x due,
    )

pub next_move-requires-clause-place : goal.next_move-requires-clause-place
next_move-requires-clause-place c =
    let script = c.args.wording.now in
    let world = c.args.world.now in
    let told = c.args.due.now.told in
    let later = c.args.due.now.later.items in
    let at = ap (λ (r : List Logged). slice_get (last_events r) told) (sym c.run.ensures) ∙ (sym c.last_event.ensures.event ∙ c.in_default.is) in
    let size : length later ≡ deque_len c.args.due.now.later = search rules in
    let none : later ≡ [] = no_lines_left later (ap (λ (n : ℕ). n == 0) size ∙ (sym c.is_empty.ensures ∙ c.if-not-is_empty.false)) in
    subst (λ (due : List Line). IsPlace script world due) (none_left script world.run told later at none) c.requires

pub returns-in_err-is_good-clause-ends : goal.returns-in_err-is_good-clause-ends
returns-in_err-is_good-clause-ends c = λ _.
    let script = c.args.wording.now in
    let x = c.in-Some-first_move.line in
    let later = c.in-Some-first_move.later.now in
    let fits : FitsLine script x = subst (λ (s : ScriptData). FitsLine s x) c.script.ensures c.in-Some-first_move.ensures.fits in
    let parts : c.args.bytes.now ≡ written script x ++ 10 ∷ later =
    c.in-Some-first_move.ensures.parts ∙ ap (λ (s : ScriptData). written s x ++ 10 ∷ later) c.script.ensures in
    some_end c.args.bytes.now (written script x) later (begins_written script c.args.bytes.now later x c.requires.is_script fits parts)

pub returns-clause-led : goal.returns-clause-led
returns-clause-led c =
    let script = c.args.wording.now in
    let run = c.args.world.now.run in
    let told = c.args.due.now.told in
    let items = c.args.due.now.later.items in
    let x = c.in-Some-first_move.line in
    let later = c.in-Some-first_move.later.now in
    let next = c.next_move.new.world.run in
    let at = ap (λ (r : List Logged). slice_get (last_events r) told) (sym c.run.ensures) ∙ (sym c.last_event.ensures.event ∙ c.in_default.is) in
    let size : length items ≡ deque_len c.args.due.now.later = search rules in
    let none : items ≡ [] = no_lines_left items (ap (λ (n : ℕ). n == 0) size ∙ (sym c.is_empty.ensures ∙ c.if-not-is_empty.false)) in
    let fits : FitsLine script x = subst (λ (s : ScriptData). FitsLine s x) c.script.ensures c.in-Some-first_move.ensures.fits in
    let parts : c.args.bytes.now ≡ written script x ++ 10 ∷ later =
    c.in-Some-first_move.ensures.parts ∙ ap (λ (s : ScriptData). written s x ++ 10 ∷ later) c.script.ensures in (
      written script x,
      begins_written script c.args.bytes.now later x c.requires.is_script fits parts,
      led_as_move script run next (due_lines script run told items) (due_lines script next c.next_move.new.due.told c.next_move.new.due.later.items) x c.in_ok-is_good.is_good
          c.requires.is_script fits (none_left script run told items at none) c.in_ok-is_good.ensures.led,
    )
