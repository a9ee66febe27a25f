-- The station at this place turned.
use Rattle.lt_live.proofs.Settling.{station_found}
use Rattle.lt_live_callers.proofs.Turned.{turned_at}
use Rattle.lt_live_callers.proofs.taking.turn_at.Goals as goal

pub returns : goal.returns
returns c =
    let stations = c.args.stations.now.items in
    let x = c.index_mut.result.now in
    turned_at c.in_ok-more.more c.args.place stations x c.turn.new.station c.requires
    (station_found stations c.args.place x c.requires c.index_mut.ensures.value) c.in_ok-more.ensures
