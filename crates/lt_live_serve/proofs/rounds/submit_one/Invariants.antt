-- The callers before have submitted all.
use Rattle.std.proofs.Common.{◌≤◌}
use Rattle.lt_live_serve.specs.Completing.{Calls, EachCaller, all_left}
use Rattle.lt_live_serve.proofs.Lasting.{SubmittedTo}
use Rattle.lt_live_serve.proofs.rounds.submit_one.Given as goal

abbrev pub invariant-loop-place : goal.invariant-loop-place
invariant-loop-place l = record {
  calls : EachCaller Calls l.initial.callers l.callers;
  left : all_left l.callers ≤ all_left l.initial.callers;
  submitted : SubmittedTo l.place l.callers;
}
