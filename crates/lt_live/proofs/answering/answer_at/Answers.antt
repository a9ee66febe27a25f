use Rattle.std.proofs.Common.{◌<◌, subst, sym, slice_index_or}
use Rattle.std.proofs.lemmas.Option.{slice_get-get_or}
use Rattle.lt_spec.specs.declared.limits.TheConstants.{MAX_CLIENTS}
use Rattle.lt_live.specs.declared.ends.Seat.{Seat}
use Rattle.lt_live.specs.Seats.{IsCursorOf}
use Rattle.lt_live.specs.Told.{AnswersSeat}
use Rattle.lt_live.proofs.SeatLists.{seat_set}
use Rattle.lt_live.proofs.answering.answer_at.Goals as goal

pub answer-requires-clause-cursor : goal.answer-requires-clause-cursor
answer-requires-clause-cursor c =
    let d = c.index_mut.result.now in
    subst (λ (s : Seat). IsCursorOf c.args.log.now s) (sym c.index_mut.ensures.value)
    (c.requires.cursor (slice_index_or c.args.seats.now.items c.args.place d) (slice_get-get_or c.args.seats.now.items c.args.place d c.requires.inside))

pub returns : goal.returns
returns c =
    seat_set (AnswersSeat c.args.log.now.entries c.args.told.now c.answer.new.told) c.args.place c.args.seats.now.items c.index_mut.result.now c.answer.new.seat c.requires.inside
    (subst (λ (s : Seat). AnswersSeat c.args.log.now.entries c.args.told.now c.answer.new.told s c.answer.new.seat) c.index_mut.ensures.value c.answer.ensures)

pub answer-requires-clause-few : goal.answer-requires-clause-few
answer-requires-clause-few c =
    let d = c.index_mut.result.now in
    subst (λ (s : Seat). s.client < MAX_CLIENTS) (sym c.index_mut.ensures.value)
    (c.requires.few (slice_index_or c.args.seats.now.items c.args.place d) (slice_get-get_or c.args.seats.now.items c.args.place d c.requires.inside))
