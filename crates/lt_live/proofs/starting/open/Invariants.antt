-- The sessions of the first clients.
use Rattle.lt_live.specs.Stations.{Opens}
use Rattle.lt_live.proofs.starting.open.Given as goal

abbrev pub invariant-loop-client : goal.invariant-loop-client
invariant-loop-client l = Opens l.script l.limit l.capacity l.share l.client l.stations.items l.sessions.items
