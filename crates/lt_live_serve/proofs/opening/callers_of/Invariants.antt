-- The callers of the sessions so far.
use Rattle.lt_live_serve.specs.Completing.{AreNewCallers}
use Rattle.lt_live_serve.proofs.opening.callers_of.Given as goal

abbrev pub invariant-loop-session : goal.invariant-loop-session
invariant-loop-session l = AreNewCallers l.script l.yielded l.callers.items
