-- The station went on.
use Rattle.lt_live_serve.specs.Completing.{ServesOn}
use Rattle.lt_live_serve.proofs.rounds.turn_often.Given as goal

abbrev pub invariant-loop : goal.invariant-loop
invariant-loop g l = ServesOn l.initial.station l.station
