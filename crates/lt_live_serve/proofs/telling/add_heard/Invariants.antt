-- The first replies that the caller polled.
use Rattle.std.proofs.Common.{◌≡◌, ◌++◌}
use Rattle.lt_live_serve.proofs.Told.{marked_to}
use Rattle.lt_live_serve.proofs.telling.add_heard.Given as goal

abbrev pub invariant-loop-place : goal.invariant-loop-place
invariant-loop-place l = l.polled.items ≡ l.initial.polled.items ++ marked_to l.caller l.place
