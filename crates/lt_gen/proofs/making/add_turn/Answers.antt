use Rattle.std.proofs.lemmas.List.Elements.{All-get_or}
use Rattle.lt_modes.specs.declared.command.Command.{Command}
use Rattle.lt_spec.specs.Script.{IsRequest}
use Rattle.lt_gen.proofs.making.add_turn.Goals as goal

pub add_command-requires-clause-request : goal.add_command-requires-clause-request
add_command-requires-clause-request c =
    rw c.loop-command.invariant.made
    (All-get_or (λ (command : Command). IsRequest c.args.script.now.sets c.args.script.now.clients (c.args.client, command)) c.args.commands.now c.loop-command.command-index _ c.loop-command-test.true c.requires.requests)
