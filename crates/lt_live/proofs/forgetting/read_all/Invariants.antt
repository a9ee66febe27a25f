-- The loop over seats.
use Rattle.std.proofs.Common.{◌≡◌, length}
use Rattle.lt_live.specs.Seats.{HasReadOn}
use Rattle.lt_live.proofs.SeatLists.{Going}
use Rattle.lt_live.proofs.Forgotten.{FirstHaveRead}
use Rattle.lt_live.proofs.forgetting.read_all.Given as goal

abbrev pub invariant-loop-place : goal.invariant-loop-place
invariant-loop-place l = record {
  going : Going (HasReadOn l.log.entries) l.place l.initial.seats.items l.seats.items;
  count : length l.seats.items ≡ length l.initial.seats.items;
  read : FirstHaveRead l.place l.log.entries l.seats.items;
}
