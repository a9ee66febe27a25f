-- A turn leaves a station a station.
use Rattle.std.proofs.Common.{ap, subst, sym}
use Rattle.lt_log.specs.LogData.{LogData}
use Rattle.lt_mail.specs.Words.{given_to}
use Rattle.lt_mail.proofs.TellingLemmas.{tells_before}
use Rattle.lt_runner.specs.declared.parts.Parts.{Parts}
use Rattle.lt_live.specs.Seats.{TellsSeat}
use Rattle.lt_live.specs.Stations.{EachSeat, HaveCursors}
use Rattle.lt_live.proofs.KeptStations.{station_taken, station_told, station_grew}
use Rattle.lt_live.proofs.Marking.{own_bits, turn_tells}
use Rattle.lt_live.proofs.TurnParts.{cursors, fits_then, turns}
use Rattle.lt_live.proofs.reporting.turn_of_telling.Goals as goal

pub append_all-fits-requires : goal.append_all-fits-requires
append_all-fits-requires g c = station_taken c.args.runner.now c.args.seats.now.items c.take_all.new.seats.items c.requires c.take_all.ensures

pub answer_all-requires-clause-cursors : goal.answer_all-requires-clause-cursors
answer_all-requires-clause-cursors g c =
    subst (λ (log : LogData). HaveCursors log c.append_all-fits.new.seats.items) (sym c.log.ensures)
    (cursors c.make_move_telling-turned.new.runner c.append_all-fits.new.seats.items
    (station_grew c.append_all-fits.new.runner c.make_move_telling-turned.new.runner c.append_all-fits.new.seats.items c.append_all-fits.ensures.kept c.make_move_telling-turned.ensures.grew))

pub returns-clause-kept : goal.returns-clause-kept
returns-clause-kept g c =
    station_told c.make_move_telling-turned.new.runner c.append_all-fits.new.seats.items c.answer_all.new.seats.items
    (station_grew c.append_all-fits.new.runner c.make_move_telling-turned.new.runner c.append_all-fits.new.seats.items c.append_all-fits.ensures.kept c.make_move_telling-turned.ensures.grew)
    (subst (λ (log : LogData). EachSeat (TellsSeat log.entries) c.append_all-fits.new.seats.items c.answer_all.new.seats.items) c.log.ensures c.answer_all.ensures.tells)

pub returns-clause-turns : goal.returns-clause-turns
returns-clause-turns g c =
    let move = c.make_move_telling-turned.ensures in
    turns c.make_move_telling-turned.result.0 c.append_all-fits.result c.args.runner.now c.append_all-fits.new.runner c.make_move_telling-turned.new.runner
    c.args.seats.now.items c.take_all.new.seats.items c.append_all-fits.new.seats.items c.answer_all.new.seats.items
    c.take_all.ensures c.append_all-fits.ensures.runner c.append_all-fits.ensures.seats c.append_all-fits.ensures.all c.append_all-fits.ensures.memory
    (record { grew = move.grew; ends = move.ends; shown = move.shown; passed = move.passed; memory = move.memory })
    (subst (λ (log : LogData). EachSeat (TellsSeat log.entries) c.append_all-fits.new.seats.items c.answer_all.new.seats.items) c.log.ensures c.answer_all.ensures.tells)

pub answer_all-requires-clause-bits : goal.answer_all-requires-clause-bits
answer_all-requires-clause-bits g c =
    own_bits c.make_move_telling-turned.new.runner c.append_all-fits.new.seats.items c.commands.ensures.script
    (station_grew c.append_all-fits.new.runner c.make_move_telling-turned.new.runner c.append_all-fits.new.seats.items c.append_all-fits.ensures.kept c.make_move_telling-turned.ensures.grew)

pub returns-clause-sent : goal.returns-clause-sent
returns-clause-sent g c =
    tells_before c.make_move_telling-turned.result.1 c.args.runner.now.mail c.append_all-fits.new.runner.mail c.make_move_telling-turned.new.runner.mail
    (λ node. ap (λ (p : Parts). given_to p.mail node) c.append_all-fits.ensures.runner.runner) c.make_move_telling-turned.ensures.sent

pub returns-clause-told : goal.returns-clause-told
returns-clause-told g c =
    turn_tells c.args.told.now c.answer_all.new.told c.args.seats.now.items c.take_all.new.seats.items c.append_all-fits.new.seats.items c.answer_all.new.seats.items
    c.take_all.ensures c.append_all-fits.ensures.seats c.answer_all.ensures.told

pub returns-clause-flushed : goal.returns-clause-flushed
returns-clause-flushed g c = λ moves.
    let move = c.make_move_telling-turned.ensures in
    move.flushed (fits_then c.append_all-fits.result c.make_move_telling-turned.result.0 c.append_all-fits.new.runner c.make_move_telling-turned.new.runner
    (record { grew = move.grew; ends = move.ends; shown = move.shown; passed = move.passed; memory = move.memory }) moves)
