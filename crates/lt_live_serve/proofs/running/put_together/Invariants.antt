-- The stations that were made, and then the parts that are left.
use Rattle.std.proofs.Common.{◌≡◌, ◌≤◌, ◌+◌, ◌++◌, length, map, vec_len, vec_capacity}
use Rattle.lt_live.specs.Stations.{runner_of}
use Rattle.lt_live_serve.specs.Apart.{seats_of, seats_on, GoTogether}
use Rattle.lt_live_serve.proofs.running.put_together.Given as goal

abbrev pub invariant-loop-runners : goal.invariant-loop-runners
invariant-loop-runners l = record {
  runners : map runner_of l.stations.items ++ l.runners.items ≡ l.initial.runners.items;
  seats : map seats_of l.stations.items ++ map seats_on l.benches.items ≡ map seats_on l.initial.benches.items;
  together : GoTogether l.runners.items l.benches.items;
  room : length l.stations.items + length l.runners.items ≤ vec_capacity l.stations;
}

abbrev pub decreases-loop-runners : goal.decreases-loop-runners
decreases-loop-runners l = vec_len l.runners
