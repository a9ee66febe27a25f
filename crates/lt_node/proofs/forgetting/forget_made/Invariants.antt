use Rattle.std.proofs.Common.{◌≡◌}
use Rattle.lt_node.proofs.forgetting.forget_made.Given as goal

abbrev pub invariant-loop-place : goal.invariant-loop-place
invariant-loop-place l = l.clients.items ≡ l.initial.clients.items
