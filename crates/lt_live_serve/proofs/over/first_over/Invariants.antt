-- The clients before have no more than they may.
use Rattle.lt_live_serve.specs.Serves.{NoneIsOver}
use Rattle.lt_live_serve.proofs.over.first_over.Given as goal

abbrev pub invariant-loop-client : goal.invariant-loop-client
invariant-loop-client l = NoneIsOver l.script l.client
