-- The station stays one.
use Rattle.lt_live.proofs.StationPairs.{station_seen}
use Rattle.lt_live.proofs.station.Station.meet_sender.Goals as goal

pub invariant_of-self : goal.invariant_of-self
invariant_of-self c =
    station_seen c.self.inside.runner c.meet_sender.new.self c.self.inside.seats.items c.meet_sender.ensures.looks.seen c.self.invariant
