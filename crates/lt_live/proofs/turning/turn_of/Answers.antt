-- A turn leaves a station a station.
use Rattle.std.proofs.Common.{subst, sym}
use Rattle.lt_log.specs.LogData.{LogData}
use Rattle.lt_live.specs.Seats.{TellsSeat}
use Rattle.lt_live.specs.Stations.{EachSeat, HaveCursors}
use Rattle.lt_live.proofs.KeptStations.{station_taken, station_told, station_grew}
use Rattle.lt_live.proofs.TurnParts.{cursors, turns}
use Rattle.lt_live.proofs.turning.turn_of.Goals as goal

pub append_all-fits-requires : goal.append_all-fits-requires
append_all-fits-requires g c = station_taken c.args.runner.now c.args.seats.now.items c.take_all.new.seats.items c.requires c.take_all.ensures

pub tell_all-requires : goal.tell_all-requires
tell_all-requires g c =
    subst (λ (log : LogData). HaveCursors log c.append_all-fits.new.seats.items) (sym c.log.ensures)
    (cursors c.make_move-turned.new.runner c.append_all-fits.new.seats.items
    (station_grew c.append_all-fits.new.runner c.make_move-turned.new.runner c.append_all-fits.new.seats.items c.append_all-fits.ensures.kept c.make_move-turned.ensures.grew))

pub returns-clause-kept : goal.returns-clause-kept
returns-clause-kept g c =
    station_told c.make_move-turned.new.runner c.append_all-fits.new.seats.items c.tell_all.new.seats.items
    (station_grew c.append_all-fits.new.runner c.make_move-turned.new.runner c.append_all-fits.new.seats.items c.append_all-fits.ensures.kept c.make_move-turned.ensures.grew)
    (subst (λ (log : LogData). EachSeat (TellsSeat log.entries) c.append_all-fits.new.seats.items c.tell_all.new.seats.items) c.log.ensures c.tell_all.ensures)

pub returns-clause-turns : goal.returns-clause-turns
returns-clause-turns g c =
    let move = c.make_move-turned.ensures in
    turns c.make_move-turned.result c.append_all-fits.result c.args.runner.now c.append_all-fits.new.runner c.make_move-turned.new.runner
    c.args.seats.now.items c.take_all.new.seats.items c.append_all-fits.new.seats.items c.tell_all.new.seats.items
    c.take_all.ensures c.append_all-fits.ensures.runner c.append_all-fits.ensures.seats c.append_all-fits.ensures.all c.append_all-fits.ensures.memory
    (record { grew = move.grew; ends = move.ends; shown = move.shown; passed = move.passed; memory = move.memory })
    (subst (λ (log : LogData). EachSeat (TellsSeat log.entries) c.append_all-fits.new.seats.items c.tell_all.new.seats.items) c.log.ensures c.tell_all.ensures)
