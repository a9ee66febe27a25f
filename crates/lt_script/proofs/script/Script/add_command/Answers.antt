use Rattle.std.proofs.Common.{◌∙◌, ◌<◌, ◌++◌, ◌∷◌, [], length, sym, ap, subst}
use Rattle.lt_modes.specs.Script.{ScriptData}
use Rattle.lt_spec.specs.declared.limits.TheConstants.{MAX_COMMANDS_OF_SERVICE}
use Rattle.lt_spec.specs.Script.{IsRequest, IsOfVersion}
use Rattle.lt_script.specs.Views.{script_data}
use Rattle.lt_script.proofs.ScriptLemmas.{command_added}
use Rattle.lt_script.proofs.script.Script.add_command.Goals as goal

pub invariant_of-self-2 : goal.invariant_of-self-2
invariant_of-self-2 c =
    let s = script_data c.self.inside in
    let at = c.self.view_is ∙ c.in_ok-own_commands.ensures in
    let room = subst (λ (v : ScriptData). length v.commands < MAX_COMMANDS_OF_SERVICE) (sym at) c.requires.room in
    let request = subst (λ (v : ScriptData). IsRequest v.sets v.clients (c.args.client, c.args.command)) (sym at) c.requires.request in
    let modes = subst (λ (v : ScriptData). IsOfVersion v.version c.args.command) (sym at) c.requires.modes in
    rw (c.in_ok-push.ensures.items, c.in-Some.ensures.value) (command_added s c.args.client c.args.command c.self.invariant room request modes)

pub invariant_of-self : goal.invariant_of-self
invariant_of-self c = c.self.invariant

pub returns-in_default-clause-unchanged : goal.returns-in_default-clause-unchanged
returns-in_default-clause-unchanged c = c.self.view_is ∙ c.in_ok-own_commands.ensures

pub returns-clause-added : goal.returns-clause-added
returns-clause-added c =
    rw (c.in_ok-push.ensures.items, c.in-Some.ensures.value)
    (ap (λ (s : ScriptData). record s { commands = s.commands ++ (c.args.client, c.args.command) ∷ [] }) (c.self.view_is ∙ c.in_ok-own_commands.ensures))
