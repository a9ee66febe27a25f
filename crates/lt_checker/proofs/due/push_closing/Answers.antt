use Rattle.std.proofs.Common.{◌≡◌, ◌++◌, ◌∙◌, List, ap, subst, true, None, refl, rules}
use Rattle.lt_modes.specs.Script.{ScriptData}
use Rattle.lt_spec.specs.World.{Logged, world_after, is_at_rest}
use Rattle.lt_journal.specs.declared.line.Line.{Line}
use Rattle.lt_journal.specs.RunLines.{closing_lines}
use Rattle.lt_law_journals.specs.Checking.{closing_at_rest}
use Rattle.lt_checker.proofs.due.push_closing.Goals as goal

pub returns-in_ok-push_rest : goal.returns-in_ok-push_rest
returns-in_ok-push_rest c =
    let script = c.args.script.now in
    let world = c.args.world.now in
    let rests : is_at_rest world.script (world_after world.script world.run) ≡ true = search rules in
    let at_rest : is_at_rest script (world_after script world.run) ≡ true =
    subst (λ (s : ScriptData). is_at_rest s (world_after s world.run) ≡ true) c.requires rests in
    let due : closing_lines script world.run None ≡ closing_at_rest script world.run = rw at_rest refl in
    c.in_ok-push_rest.ensures
    ∙ ap (λ (t : List Line). c.args.due.now.items ++ t) (ap (λ (run : List Logged). closing_lines script run None) c.run.ensures ∙ due)
