-- The first commands of the other script are added.
use Rattle.lt_threads.proofs.Shares.{Adds}
use Rattle.lt_threads.proofs.joining.add_commands.Given as goal

abbrev pub invariant-loop-place : goal.invariant-loop-place
invariant-loop-place l = Adds l.place l.fn.other.commands l.initial.script l.script
