-- The first sessions are settled.
use Rattle.lt_live.specs.OneNode.{SettlingHere}
use Rattle.lt_live.proofs.serving_one.settle.Given as goal

abbrev pub invariant-loop-place : goal.invariant-loop-place
invariant-loop-place l = SettlingHere l.place l.initial.station l.initial.sessions l.station l.sessions
