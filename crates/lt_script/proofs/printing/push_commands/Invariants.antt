use Rattle.std.proofs.Common.{◌≡◌, ◌++◌, take, flat_map}
use Rattle.lt_script.specs.Printing.{ended_line, command_words}
use Rattle.lt_script.proofs.printing.push_commands.Given as goal

-- the commands so far are written
abbrev pub invariant-loop-request : goal.invariant-loop-request
invariant-loop-request l = l.out.items ≡ l.fn.out.items ++ flat_map (λ x. ended_line (command_words l.script x)) (take l.request-index l.script.commands)
