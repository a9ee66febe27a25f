-- One seat may have handed its command over, and the others stay.
use Rattle.std.proofs.Common.{subst, sym, ◌∙◌, slice_index_or}
use Rattle.std.proofs.lemmas.Option.{same_Some, slice_get-get_or}
use Rattle.lt_live.specs.declared.ends.Seat.{Seat}
use Rattle.lt_live.specs.Stations.{IsSeatOf, MayHandOver, HandMayGo, CanNotAppend}
use Rattle.lt_live.proofs.SeatLists.{set_here, seat_set}
use Rattle.lt_live.proofs.KeptStations.{station_handed, hand_goes}
use Rattle.lt_live.proofs.TurnParts.{only_handed}
use Rattle.lt_live.proofs.turning.append_at.Goals as goal

pub append-requires-clause-client : goal.append-requires-clause-client
append-requires-clause-client c =
    let d = c.index_mut.result.now in
    let seats = c.args.seats.now.items in
    (subst (λ (s : Seat). IsSeatOf c.args.runner.now s) (sym c.index_mut.ensures.value)
    (c.requires.kept.each c.args.place (slice_index_or seats c.args.place d) (slice_get-get_or seats c.args.place d c.requires.inside))).client

pub append-requires-clause-home : goal.append-requires-clause-home
append-requires-clause-home c =
    let d = c.index_mut.result.now in
    let seats = c.args.seats.now.items in
    (subst (λ (s : Seat). IsSeatOf c.args.runner.now s) (sym c.index_mut.ensures.value)
    (c.requires.kept.each c.args.place (slice_index_or seats c.args.place d) (slice_get-get_or seats c.args.place d c.requires.inside))).home

pub returns-clause-kept : goal.returns-clause-kept
returns-clause-kept c =
    let d = c.index_mut.result.now in
    let seats = c.args.seats.now.items in
    station_handed c.args.runner.now c.append.new.runner seats c.args.place (slice_index_or seats c.args.place d) c.append.new.seat c.requires.kept
    (slice_get-get_or seats c.args.place d c.requires.inside)
    (subst (λ (s : Seat). MayHandOver s c.args.runner.now c.append.new.seat c.append.new.runner) c.index_mut.ensures.value c.append.ensures.hand)

pub returns-clause-runner : goal.returns-clause-runner
returns-clause-runner c = only_handed c.args.runner.now c.append.new.runner c.index_mut.result.now c.append.new.seat c.append.ensures.hand

pub returns-clause-seat : goal.returns-clause-seat
returns-clause-seat c =
    seat_set HandMayGo c.args.place c.args.seats.now.items c.index_mut.result.now c.append.new.seat c.requires.inside
    (subst (λ (s : Seat). HandMayGo s c.append.new.seat) c.index_mut.ensures.value
    (hand_goes c.args.runner.now c.append.new.runner c.index_mut.result.now c.append.new.seat c.append.ensures.hand))

pub returns-clause-hand : goal.returns-clause-hand
returns-clause-hand c = λ fits seat there.
    subst (λ (s : Seat). CanNotAppend c.append.new.runner s)
    (same_Some c.append.new.seat seat (sym (set_here c.args.seats.now.items c.args.place c.append.new.seat c.requires.inside) ∙ there))
    (c.append.ensures.rest fits)

pub returns-clause-memory : goal.returns-clause-memory
returns-clause-memory c = λ short.
    (c.args.place, c.append.new.seat, set_here c.args.seats.now.items c.args.place c.append.new.seat c.requires.inside, c.append.ensures.memory short)
