use Rattle.lt_waits.specs.Search.{HasRows}
use Rattle.lt_waits.proofs.waiters.rows_of.Given as goal

abbrev pub invariant-loop-client : goal.invariant-loop-client
invariant-loop-client l = HasRows l.graph l.rows.items l.client
