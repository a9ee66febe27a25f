-- The client's commands among those that were looked at.
use Rattle.std.proofs.Common.{◌≡◌}
use Rattle.lt_live_serve.specs.Serves.{among}
use Rattle.lt_live_serve.proofs.opening.commands_of.Given as goal

abbrev pub invariant-loop-place : goal.invariant-loop-place
invariant-loop-place l = l.commands.items ≡ among l.script l.client l.place
