-- The turns so far are made, and what is left of the whole is what they leave.
use Rattle.std.proofs.Common.{◌≡◌, ◌≤◌, ◌+◌, length}
use Rattle.lt_gen.specs.Generator.{requests_in, Making}
use Rattle.lt_gen.proofs.making.add_commands.Given as goal

abbrev pub invariant-loop-left : goal.invariant-loop-left
invariant-loop-left l = record {
  others : l.script ≡ record l.fn.script { commands = l.script.commands };
  count : length l.script.commands + l.left ≡ l.commands;
  turns : l.turn + l.left ≤ l.commands;
  parts : Making l.sizes l.left l.turn l.draws l.script.commands (requests_in l.commands l.sizes l.commands 0 l.fn.draws);
}

abbrev pub decreases-loop-left : goal.decreases-loop-left
decreases-loop-left l = l.left
