-- Both stay stations.
use Rattle.lt_live.proofs.StationPairs.{station_seen}
use Rattle.lt_live.proofs.station.Station.meet.Goals as goal

pub invariant_of-self : goal.invariant_of-self
invariant_of-self c =
    station_seen c.self.inside.runner c.meet_both.new.first c.self.inside.seats.items c.meet_both.ensures.first.seen c.self.invariant

pub invariant_of-other : goal.invariant_of-other
invariant_of-other c =
    station_seen c.other.inside.runner c.meet_both.new.second c.other.inside.seats.items c.meet_both.ensures.second.seen c.other.invariant
