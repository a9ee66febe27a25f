-- The callers are the same, but for what those before submitted.
use Rattle.lt_live_serve.specs.Completing.{Calls, EachCaller}
use Rattle.lt_live_serve.proofs.first.submit_first.Given as goal

abbrev pub invariant-loop-place : goal.invariant-loop-place
invariant-loop-place l = EachCaller Calls l.initial.callers l.callers
