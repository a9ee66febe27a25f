use Rattle.std.proofs.Common.{subst, sym, slice_index_or}
use Rattle.std.proofs.lemmas.Option.{slice_get-get_or}
use Rattle.lt_live.specs.declared.ends.Seat.{Seat}
use Rattle.lt_live.specs.Seats.{IsCursorOf, TellsSeat}
use Rattle.lt_live.proofs.SeatLists.{seat_set}
use Rattle.lt_live.proofs.turning.tell_at.Goals as goal

pub tell_after-requires-clause-cursor : goal.tell_after-requires-clause-cursor
tell_after-requires-clause-cursor c =
    let d = c.index_mut.result.now in
    subst (λ (s : Seat). IsCursorOf c.args.log.now s) (sym c.index_mut.ensures.value)
    (c.requires.cursor (slice_index_or c.args.seats.now.items c.args.place d) (slice_get-get_or c.args.seats.now.items c.args.place d c.requires.inside))

pub returns : goal.returns
returns c =
    seat_set (TellsSeat c.args.log.now.entries) c.args.place c.args.seats.now.items c.index_mut.result.now c.tell_after.new.self c.requires.inside
    (subst (λ (s : Seat). TellsSeat c.args.log.now.entries s c.tell_after.new.self) c.index_mut.ensures.value c.tell_after.ensures)
