-- The first sessions and their seats looked.
use Rattle.lt_live_callers.specs.Taking.{SessionsLook}
use Rattle.lt_live_callers.proofs.taking.look_all.Given as goal

abbrev pub invariant-loop-client : goal.invariant-loop-client
invariant-loop-client l =
    SessionsLook l._script l.client l.initial.stations.items l.initial.sessions.items l.stations.items l.sessions.items
