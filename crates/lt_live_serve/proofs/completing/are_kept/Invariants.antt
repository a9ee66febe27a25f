-- What the stations before keep.
use Rattle.lt_live_serve.proofs.Turned.{KeptTo}
use Rattle.lt_live_serve.proofs.completing.are_kept.Given as goal

abbrev pub invariant-loop-place : goal.invariant-loop-place
invariant-loop-place l = KeptTo l.place l.fn.stations
