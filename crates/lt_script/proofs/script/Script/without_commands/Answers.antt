use Rattle.lt_script.specs.Views.{script_data}
use Rattle.lt_script.proofs.ScriptLemmas.{commands_taken_away}
use Rattle.lt_script.proofs.script.Script.without_commands.Goals as goal

pub invariant_of-result : goal.invariant_of-result
invariant_of-result c =
    rw (c.in_ok-parts.ensures, c.in_ok-commands.ensures.ok, c.new.ensures.items) (commands_taken_away (script_data c.self.inside) c.self.invariant)
