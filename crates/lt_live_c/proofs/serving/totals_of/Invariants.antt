-- What was counted at the sessions so far.
use Rattle.std.proofs.Common.{◌≡◌, ◌≤◌, ◌*◌, ◌/◌, length, take, sum_by}
use Rattle.lt_spec.specs.declared.limits.TheConstants.{MAX_COMMANDS_OF_SERVICE}
use Rattle.lt_live.specs.declared.ends.Session.{Session}
use Rattle.lt_live.specs.Words.{submitted, polled}
use Rattle.lt_live_c.proofs.serving.totals_of.Given as goal

abbrev pub invariant-loop-place : goal.invariant-loop-place
invariant-loop-place l = record {
  submitted_is : l.submitted ≡ sum_by (λ (s : Session). length (submitted s)) (take l.place l.fn.sessions);
  polled_is : l.polled ≡ sum_by (λ (s : Session). length (polled s)) (take l.place l.fn.sessions);
  few_submitted : l.submitted ≤ l.place * (MAX_COMMANDS_OF_SERVICE / length l.fn.sessions);
  few_polled : l.polled ≤ l.place * (MAX_COMMANDS_OF_SERVICE / length l.fn.sessions);
}
