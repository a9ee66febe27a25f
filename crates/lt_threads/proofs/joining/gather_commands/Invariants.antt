-- The commands of the first runners are in the script.
use Rattle.lt_threads.proofs.Shares.{Gathers}
use Rattle.lt_threads.proofs.joining.gather_commands.Given as goal

abbrev pub invariant-loop-place : goal.invariant-loop-place
invariant-loop-place l = Gathers l.place l.fn.runners l.script
