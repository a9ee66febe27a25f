-- Stations taken apart, whose runners make moves meanwhile.
use Rattle.std.specs.Prelude.{◌≡◌, ℕ, List, Some, length, map, slice_get}
use Rattle.lt_modes.specs.Script.{ScriptData}
use Rattle.lt_merge.specs.Merging.{Merges, RunData}
use Rattle.lt_spec.specs.World.{Logged}
use Rattle.lt_runner.specs.declared.parts.Parts.{Parts}
use Rattle.lt_threads.specs.Meeting.{AreCrewLogs}
use Rattle.lt_live.specs.declared.ends.Seat.{Seat}
use Rattle.lt_live.specs.Stations.{runner_of, StationData, IsStation}
use Rattle.lt_live_serve.specs.declared.benches.Bench.{Bench}

abbrev pub seats_of : StationData → List Seat
seats_of station = station.seats

abbrev pub seats_on : Bench → List Seat
seats_on bench = bench.seats.items

-- the stations have these runners, and their seats are on these benches
pub record AreParts (stations : List StationData) (runners : List Parts) (benches : List Bench) : Type 0 where
  pub runners_are : map runner_of stations ≡ runners
  pub benches_are : map seats_of stations ≡ map seats_on benches

-- the runner and the bench at each place make up a station
pub record GoTogether (runners : List Parts) (benches : List Bench) : Type 0 where
  pub count : length benches ≡ length runners
  pub each : (k : ℕ) (p : Parts) (bench : Bench) → slice_get runners k ≡ Some p → slice_get benches k ≡ Some bench → IsStation p (seats_on bench)

-- the moves of these runners, merged
pub record IsRunOf (script : ScriptData) (runners : List Parts) (run : List Logged) : Type 0 where
  pub logs : List RunData
  pub are : AreCrewLogs script runners logs
  pub merges : Merges logs run
