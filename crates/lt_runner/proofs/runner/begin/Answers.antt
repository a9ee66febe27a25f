-- The node has the script.
use Rattle.std.proofs.Common.{◌≡◌, sym, subst}
use Rattle.lt_modes.specs.Script.{ScriptData}
use Rattle.lt_spec.specs.World.{start}
use Rattle.lt_node.specs.NodeData.{state_of}
use Rattle.lt_runner.proofs.runner.begin.Goals as goal

pub with_log-requires-clause-node : goal.with_log-requires-clause-node
with_log-requires-clause-node c = rw c.requires.script c.requires.node

pub with_log-requires-clause-state : goal.with_log-requires-clause-state
with_log-requires-clause-state c =
    subst (λ (script : ScriptData). state_of c.args.node ≡ (start script).node c.args.node.me) (sym c.requires.script) c.requires.state

pub with_log-requires-clause-mail : goal.with_log-requires-clause-mail
with_log-requires-clause-mail c = rw c.requires.script c.requires.mail

pub with_log-requires-clause-log : goal.with_log-requires-clause-log
with_log-requires-clause-log c = c.in_ok-log.ensures

pub returns-clause-kept : goal.returns-clause-kept
returns-clause-kept c = c.with_log.ensures.kept

pub returns-clause-starts : goal.returns-clause-starts
returns-clause-starts c = rw (← c.requires.script) c.with_log.ensures.starts

pub returns-clause-commands_gone : goal.returns-clause-commands_gone
returns-clause-commands_gone c = c.with_log.ensures.commands_gone
