use Rattle.std.proofs.Common.{subst, sym, ap, ◌∙◌, slice_index_or}
use Rattle.std.proofs.lemmas.Option.{same_Some, slice_get-get_or}
use Rattle.lt_live.specs.declared.ends.Seat.{Seat}
use Rattle.lt_live.specs.Seats.{IsCursorOf, HasReadOn}
use Rattle.lt_live.proofs.SeatLists.{seat_set, set_here}
use Rattle.lt_live.proofs.forgetting.read_at.Goals as goal

pub read_on-requires : goal.read_on-requires
read_on-requires c =
    let d = c.index_mut.result.now in
    subst (λ (s : Seat). IsCursorOf c.args.log.now s) (sym c.index_mut.ensures.value)
    (c.requires.cursor (slice_index_or c.args.seats.now.items c.args.place d) (slice_get-get_or c.args.seats.now.items c.args.place d c.requires.inside))

pub returns-in_err-read_on-clause-reads : goal.returns-in_err-read_on-clause-reads
returns-in_err-read_on-clause-reads c =
    seat_set (HasReadOn c.args.log.now.entries) c.args.place c.args.seats.now.items c.index_mut.result.now c.read_on.new.self c.requires.inside
    (subst (λ (s : Seat). HasReadOn c.args.log.now.entries s c.read_on.new.self) c.index_mut.ensures.value c.read_on.ensures.on)

pub returns-clause-reads : goal.returns-clause-reads
returns-clause-reads c =
    seat_set (HasReadOn c.args.log.now.entries) c.args.place c.args.seats.now.items c.index_mut.result.now c.read_on.new.self c.requires.inside
    (subst (λ (s : Seat). HasReadOn c.args.log.now.entries s c.read_on.new.self) c.index_mut.ensures.value c.read_on.ensures.on)

pub returns-clause-all : goal.returns-clause-all
returns-clause-all c = λ seat there.
    ap (λ (s : Seat). s.moves)
    (same_Some seat c.read_on.new.self (sym there ∙ set_here c.args.seats.now.items c.args.place c.read_on.new.self c.requires.inside))
    ∙ c.in_ok-read_on.ensures.all.moves
