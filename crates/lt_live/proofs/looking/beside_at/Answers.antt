-- The seat at the session's place looked.
use Rattle.std.proofs.Common.{subst, sym, refl, arith, ◌⊎◌, ◌<◌, length}
use Rattle.lt_log.specs.LogData.{LogData}
use Rattle.lt_live.specs.Words.{known_replies}
use Rattle.lt_live.specs.Seats.{IsCursorOf, LooksBeside, HasToldAll, IsFullOfReplies}
use Rattle.lt_live.proofs.OpenedStations.{seat_found, seat_inside, station_looked, seat_looked}
use Rattle.lt_live.proofs.looking.beside_at.Goals as goal

pub index_mut-requires : goal.index_mut-requires
index_mut-requires c =
    let inside = seat_inside c.args.seats.now.items c.args.session.now.place c.args.session.now c.requires.seated refl in
    omega (arith, inside, c.args.seats.now.ok.0)

pub beside-requires-clause-link : goal.beside-requires-clause-link
beside-requires-clause-link c =
    (seat_found c.args.seats.now.items c.args.session.now.place c.index_mut.result.now c.args.session.now c.requires.seated refl c.index_mut.ensures.value).1

pub beside-requires-clause-cursor : goal.beside-requires-clause-cursor
beside-requires-clause-cursor c =
    let here = (seat_found c.args.seats.now.items c.args.session.now.place c.index_mut.result.now c.args.session.now c.requires.seated refl c.index_mut.ensures.value).0 in
    let is = c.requires.kept.each c.args.session.now.place c.index_mut.result.now here in
    subst (λ (log : LogData). IsCursorOf log c.index_mut.result.now) (sym c.log.ensures) (is.kept.cursor, is.gone)

pub beside-requires-clause-places : goal.beside-requires-clause-places
beside-requires-clause-places c =
    let here = (seat_found c.args.seats.now.items c.args.session.now.place c.index_mut.result.now c.args.session.now c.requires.seated refl c.index_mut.ensures.value).0 in
    (c.requires.kept.each c.args.session.now.place c.index_mut.result.now here).places

pub returns-clause-kept : goal.returns-clause-kept
returns-clause-kept c =
    let here = (seat_found c.args.seats.now.items c.args.session.now.place c.index_mut.result.now c.args.session.now c.requires.seated refl c.index_mut.ensures.value).0 in
    station_looked c.args.runner.now c.args.seats.now.items c.args.session.now.place c.args.session.now c.beside.new.session c.index_mut.result.now c.beside.new.seat
    c.requires.kept refl here
    (subst (λ (log : LogData). LooksBeside log.entries c.args.session.now c.beside.new.session c.index_mut.result.now c.beside.new.seat) c.log.ensures c.beside.ensures.looks)

pub returns-clause-looks : goal.returns-clause-looks
returns-clause-looks c =
    let here = (seat_found c.args.seats.now.items c.args.session.now.place c.index_mut.result.now c.args.session.now c.requires.seated refl c.index_mut.ensures.value).0 in
    seat_looked c.args.runner.now.log.entries c.args.seats.now.items c.args.session.now.place c.args.session.now c.beside.new.session c.index_mut.result.now c.beside.new.seat
    refl here c.beside.ensures.link c.beside.ensures.beside
    (subst (λ (log : LogData). LooksBeside log.entries c.args.session.now c.beside.new.session c.index_mut.result.now c.beside.new.seat) c.log.ensures c.beside.ensures.looks)
    (subst (λ (log : LogData). HasToldAll log.entries c.beside.new.seat ⊎ IsFullOfReplies c.beside.new.session c.beside.new.seat) c.log.ensures c.beside.ensures.stops)
    (subst (λ (log : LogData). HasToldAll log.entries c.beside.new.seat ⊎ (0 < length (known_replies c.beside.new.session))) c.log.ensures c.beside.ensures.moves)
