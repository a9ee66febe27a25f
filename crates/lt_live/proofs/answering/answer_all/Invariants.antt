-- The loop over seats.
use Rattle.std.proofs.Common.{◌≡◌, length}
use Rattle.lt_live.specs.Seats.{TellsSeat}
use Rattle.lt_live.proofs.Marking.{ToldFirst}
use Rattle.lt_live.proofs.SeatLists.{Going}
use Rattle.lt_live.proofs.answering.answer_all.Given as goal

abbrev pub invariant-loop-place : goal.invariant-loop-place
invariant-loop-place l = record {
  going : Going (TellsSeat l.log.entries) l.place l.initial.seats.items l.seats.items;
  told : ToldFirst l.place l.initial.told l.told l.initial.seats.items l.seats.items;
  count : length l.seats.items ≡ length l.initial.seats.items;
}
