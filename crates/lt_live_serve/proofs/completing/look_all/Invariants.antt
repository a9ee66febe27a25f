-- The first callers and their seats looked.
use Rattle.lt_live_serve.specs.Completing.{CallersLook}
use Rattle.lt_live_serve.proofs.completing.look_all.Given as goal

abbrev pub invariant-loop-client : goal.invariant-loop-client
invariant-loop-client l =
    CallersLook l._script l.client l.initial.stations.items l.initial.callers.items l.stations.items l.callers.items
