-- The station stays one.
use Rattle.lt_live.proofs.StationPairs.{station_seen}
use Rattle.lt_live.proofs.station.Station.meet_taker.Goals as goal

pub invariant_of-self : goal.invariant_of-self
invariant_of-self c =
    station_seen c.self.inside.runner c.meet_taker.new.self c.self.inside.seats.items c.meet_taker.ensures.looks.seen c.self.invariant
