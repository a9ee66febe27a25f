-- The caller called.
use Rattle.lt_live_serve.specs.Completing.{Calls}
use Rattle.lt_live_serve.proofs.callers.Caller.call.Given as goal

abbrev pub invariant-loop : goal.invariant-loop
invariant-loop l = Calls l.initial.self l.self
