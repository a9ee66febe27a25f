use Rattle.std.proofs.Common.{◌≡◌, ◌≤◌, List}
use Rattle.lt_lists.specs.Below.{count_below}
use Rattle.lt_spec.specs.World.{Logged}
use Rattle.lt_spec.specs.Holdings.{lines_of}
use Rattle.lt_tally.specs.LockTable.{IsTallied}
use Rattle.lt_tally.specs.Summary.{waits_after}
use Rattle.lt_tally.proofs.waiting.clients_waiting.Given as goal

abbrev pub invariant-loop-client : goal.invariant-loop-client
invariant-loop-client l = record {
  count : (run : List Logged) → IsTallied l.script l.tally (lines_of run) → l.count ≡ count_below l.client (waits_after run);
  few : l.count ≤ l.client;
}
