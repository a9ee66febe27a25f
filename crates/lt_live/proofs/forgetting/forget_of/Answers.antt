-- The seats have read, and then the runner forgets.
use Rattle.std.proofs.Common.{subst, sym, refl}
use Rattle.lt_log.specs.LogData.{LogData}
use Rattle.lt_live.specs.Seats.{HasReadOn}
use Rattle.lt_live.specs.Stations.{EachSeat, HaveCursors, HaveRead}
use Rattle.lt_live.proofs.TurnParts.{cursors}
use Rattle.lt_live.proofs.Forgotten.{station_read, station_forgot}
use Rattle.lt_live.proofs.forgetting.forget_of.Goals as goal

pub read_all-requires : goal.read_all-requires
read_all-requires c =
    subst (λ (log : LogData). HaveCursors log c.args.seats.now.items) (sym c.log.ensures) (cursors c.args.runner.now c.args.seats.now.items c.requires)

pub returns-in_err-read_all-clause-kept : goal.returns-in_err-read_all-clause-kept
returns-in_err-read_all-clause-kept c =
    station_read c.args.runner.now c.args.seats.now.items c.read_all.new.seats.items c.requires
    (subst (λ (log : LogData). EachSeat (HasReadOn log.entries) c.args.seats.now.items c.read_all.new.seats.items) c.log.ensures c.read_all.ensures.reads)

pub returns-in_err-read_all-clause-forgets : goal.returns-in_err-read_all-clause-forgets
returns-in_err-read_all-clause-forgets c = record {
  runner = refl;
  entries = refl;
  reads = subst (λ (log : LogData). EachSeat (HasReadOn log.entries) c.args.seats.now.items c.read_all.new.seats.items) c.log.ensures c.read_all.ensures.reads;
}

pub returns-clause-kept : goal.returns-clause-kept
returns-clause-kept c =
    let before = c.args.runner.now in
    let later = c.read_all.new.seats.items in
    let forgets = c.forget_moves.ensures in
    station_forgot before c.forget_moves.new.self later forgets.rest forgets.entries forgets.gone
    (subst (λ (log : LogData). HaveRead log.entries later) c.log.ensures c.in_ok-read_all.ensures.all)
    (station_read before c.args.seats.now.items later c.requires
    (subst (λ (log : LogData). EachSeat (HasReadOn log.entries) c.args.seats.now.items later) c.log.ensures c.read_all.ensures.reads))
