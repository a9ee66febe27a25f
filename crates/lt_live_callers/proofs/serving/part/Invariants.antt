-- The parts so far.
use Rattle.std.proofs.Common.{◌≡◌, map}
use Rattle.lt_live_callers.specs.Desks.{called_of, session_of}
use Rattle.lt_live_callers.proofs.serving.part.Given as goal

abbrev pub invariant-loop-desk : goal.invariant-loop-desk
invariant-loop-desk g l = record {
  callers : l.callers.items ≡ map called_of l.yielded;
  sessions : l.sessions.items ≡ map session_of l.yielded;
}
