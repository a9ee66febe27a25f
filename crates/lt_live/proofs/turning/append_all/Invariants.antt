-- The loop over seats.
use Rattle.std.proofs.Common.{◌≡◌, length}
use Rattle.lt_live.specs.Stations.{IsStation, OnlyAppends, HandMayGo}
use Rattle.lt_live.proofs.SeatLists.{Going}
use Rattle.lt_live.proofs.TurnParts.{FirstCanNot}
use Rattle.lt_live.proofs.turning.append_all.Given as goal

abbrev pub invariant-loop-place : goal.invariant-loop-place
invariant-loop-place l = record {
  kept : IsStation l.runner l.seats.items;
  runner : OnlyAppends l.initial.runner l.runner;
  going : Going HandMayGo l.place l.initial.seats.items l.seats.items;
  count : length l.seats.items ≡ length l.initial.seats.items;
  hands : FirstCanNot l.place l.runner l.seats.items;
}
