-- What the first callers polled.
use Rattle.std.proofs.Common.{◌≡◌}
use Rattle.lt_lists.specs.Below.{gather_below}
use Rattle.lt_live_serve.specs.Completing.{heard_at}
use Rattle.lt_live_serve.proofs.telling.gather.Given as goal

abbrev pub invariant-loop-place : goal.invariant-loop-place
invariant-loop-place l = l.polled.items ≡ gather_below l.place (heard_at l.callers)
