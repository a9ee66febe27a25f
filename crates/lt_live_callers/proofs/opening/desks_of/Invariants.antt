-- The desks so far, and then the callers and sessions that are left.
use Rattle.std.proofs.Common.{◌≡◌, ◌++◌, length, map, vec_len}
use Rattle.lt_live_callers.specs.Desks.{caller_of, session_of}
use Rattle.lt_live_callers.specs.Served.{NoneRefused}
use Rattle.lt_live_callers.proofs.opening.desks_of.Given as goal

abbrev pub invariant-loop-callers : goal.invariant-loop-callers
invariant-loop-callers g l = record {
  same : length l.callers.items ≡ length l.sessions.items;
  callers : map caller_of l.desks.items ++ l.callers.items ≡ l.initial.callers.items;
  sessions : map session_of l.desks.items ++ l.sessions.items ≡ l.initial.sessions.items;
  free : NoneRefused l.desks.items;
}

abbrev pub decreases-loop-callers : goal.decreases-loop-callers
decreases-loop-callers g l = vec_len l.sessions
