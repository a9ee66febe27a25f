use Rattle.std.proofs.Common.{◌≡◌, ◌-◌, ◌++◌, true, List, Some, length, sym, ap, ap₂, ◌∙◌, rules}
use Rattle.lt_spec.specs.World.{Logged, is_enabled}
use Rattle.lt_merge.specs.Merging.{made_at}
use Rattle.lt_journal.specs.declared.line.Line.{Line}
use Rattle.lt_world.specs.Fields.{world_of}
use Rattle.lt_law_journals.specs.Checking.{Place, by_move, closing_at_rest}
use Rattle.lt_checker.proofs.Moving.{room_for_move, stepped, last_place, next_clock, wrong_clock, right_move, next_is_place}
use Rattle.lt_checker.proofs.DueLines.{next_due}
use Rattle.lt_checker.specs.Due.{due_lines}
use Rattle.lt_modes.specs.Script.{ScriptData}
use Rattle.lt_checker.proofs.following.next_move.Goals as goal

pub step-requires-clause-room : goal.step-requires-clause-room
step-requires-clause-room c = room_for_move c.args.wording.now c.args.world.now c.in-Move.node c.requires.place

pub returns-then-made-clock-clause-led : goal.returns-then-made-clock-clause-led
returns-then-made-clock-clause-led c =
    let world = c.args.world.now in
    let script = c.args.wording.now in
    let node = c.in-Move.node in
    let step = c.in-Move.step in
    let next = c.step.new.self in
    let enabled : is_enabled world.script (world_of world) node step ≡ true = search rules in
    let s = stepped script world node step next c.requires.place enabled c.in_ok-step.ensures.ok in
    let k = c.len-last.result - 1 in
    let last = last_place script world node step next c.len-last.result s (c.len-last.ensures ∙ ap (λ (r : List Logged). length r) c.run.ensures) in
    let clock = next_clock script world node step next k c.made.result s last (ap (λ (r : List Logged). made_at r k) (sym c.run-2.ensures) ∙ c.made.ensures) in
    ap (by_move script world.run) c.in-Move.is ∙ wrong_clock script world.run c.in-Move.clock node step (λ e. c.if-made-clock.true (sym (e ∙ clock)))

pub returns-clause-led : goal.returns-clause-led
returns-clause-led c =
    let world = c.args.world.now in
    let script = c.args.wording.now in
    let node = c.in-Move.node in
    let step = c.in-Move.step in
    let next = c.step.new.self in
    let enabled : is_enabled world.script (world_of world) node step ≡ true = search rules in
    let s = stepped script world node step next c.requires.place enabled c.in_ok-step.ensures.ok in
    let k = c.len-last.result - 1 in
    let last = last_place script world node step next c.len-last.result s (c.len-last.ensures ∙ ap (λ (r : List Logged). length r) c.run.ensures) in
    let clock = next_clock script world node step next k c.made.result s last (ap (λ (r : List Logged). made_at r k) (sym c.run-2.ensures) ∙ c.made.ensures) in
    let right : c.in-Move.clock ≡ c.made.result.stamp.clock = search rules in
    let later = c.in_ok-push_closing.ensures ∙ ap₂ (λ (t : List Line) (s : ScriptData). t ++ closing_at_rest s next.run) c.requires.none_due c.script.ensures in
    let at = next_due script world node step next c.push_closing.new.due.items s later in
    ap (by_move script world.run) c.in-Move.is ∙ (right_move script world node step next c.in-Move.clock s (right ∙ sym clock) ∙ ap (λ (p : Place). Some p) at)

pub returns-clause-place : goal.returns-clause-place
returns-clause-place c = λ good.
    let world = c.args.world.now in
    let script = c.args.wording.now in
    let node = c.in-Move.node in
    let step = c.in-Move.step in
    let next = c.step.new.self in
    let enabled : is_enabled world.script (world_of world) node step ≡ true = search rules in
    let s = stepped script world node step next c.requires.place enabled c.in_ok-step.ensures.ok in
    next_is_place script world node step next c.args.line (due_lines script next.run 0 c.push_closing.new.due.items) s (returns-clause-led c)
