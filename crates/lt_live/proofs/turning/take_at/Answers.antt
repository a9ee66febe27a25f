use Rattle.std.proofs.Common.{subst}
use Rattle.lt_live.specs.declared.ends.Seat.{Seat}
use Rattle.lt_live.specs.Seats.{TakesIn}
use Rattle.lt_live.proofs.SeatLists.{seat_set}
use Rattle.lt_live.proofs.turning.take_at.Goals as goal

pub returns : goal.returns
returns c =
    seat_set TakesIn c.args.place c.args.seats.now.items c.index_mut.result.now c.take_in.new.self c.requires
    (subst (λ (s : Seat). TakesIn s c.take_in.new.self) c.index_mut.ensures.value c.take_in.ensures)
