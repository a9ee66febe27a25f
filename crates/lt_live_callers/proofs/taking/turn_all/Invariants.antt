-- The first stations turned.
use Rattle.lt_live_callers.proofs.Turned.{TurnsTo}
use Rattle.lt_live_callers.proofs.taking.turn_all.Given as goal

abbrev pub invariant-loop-place : goal.invariant-loop-place
invariant-loop-place l = TurnsTo l.place l.more l.initial.stations.items l.stations.items
