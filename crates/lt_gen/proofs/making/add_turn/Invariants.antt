-- The commands so far are added.
use Rattle.std.proofs.Common.{◌≡◌, ◌+◌, ◌++◌, map, take, length}
use Rattle.lt_gen.proofs.making.add_turn.Given as goal

abbrev pub invariant-loop-command : goal.invariant-loop-command
invariant-loop-command l = record {
  count : length l.script.commands ≡ length l.fn.script.commands + l.command-index;
  made : l.script ≡ record l.fn.script { commands = l.fn.script.commands ++ map (λ command. (l.client, command)) (take l.command-index l.commands) };
}
