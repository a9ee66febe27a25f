use Rattle.lt_live.specs.Live.{StationGoesOn}
use Rattle.lt_live.proofs.SeatLists.{alike_set}
use Rattle.lt_live.proofs.Settling.{station_itself, station_found}
use Rattle.lt_tests.proofs.live.turn_first.Goals as goal

pub returns : goal.returns
returns c =
    alike_set StationGoesOn station_itself c.args.stations.now.items 0 c.index_mut.result.now c.turn.new.self
    (station_found c.args.stations.now.items 0 c.index_mut.result.now c.requires c.index_mut.ensures.value)
    (record { runner = c.turn.ensures.goes_on; seated = c.turn.ensures.seated })
