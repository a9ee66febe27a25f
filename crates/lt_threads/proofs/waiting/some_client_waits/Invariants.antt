-- The loop over clients.
use Rattle.std.proofs.Common.{◌≡◌, false}
use Rattle.lt_lists.specs.Below.{any_below}
use Rattle.lt_spec.specs.World.{is_waiting}
use Rattle.lt_threads.specs.Meeting.{crew_world}
use Rattle.lt_threads.proofs.waiting.some_client_waits.Given as goal

abbrev pub invariant-loop-client : goal.invariant-loop-client
invariant-loop-client l = any_below l.client (is_waiting l.script (crew_world l.script l.runners)) ≡ false
