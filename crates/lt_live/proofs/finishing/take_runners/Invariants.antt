-- The runners that were taken, and then those of the stations that are left.
use Rattle.std.proofs.Common.{◌≡◌, ◌≤◌, ◌+◌, ◌++◌, length, map, vec_len, vec_capacity}
use Rattle.lt_live.specs.Stations.{runner_of}
use Rattle.lt_live.proofs.finishing.take_runners.Given as goal

abbrev pub invariant-loop-stations : goal.invariant-loop-stations
invariant-loop-stations l = record {
  taken : l.runners.items ++ map runner_of l.stations.items ≡ map runner_of l.initial.stations.items;
  room : length l.runners.items + length l.stations.items ≤ vec_capacity l.runners;
}

abbrev pub decreases-loop-stations : goal.decreases-loop-stations
decreases-loop-stations l = vec_len l.stations
