-- The two stations stand where they stood.
use Rattle.lt_live.proofs.StationPairs.{station_pair, station_across, station_back}
use Rattle.lt_live.proofs.meeting.meet_two.Goals as goal

pub meet-requires-clause-there : goal.meet-requires-clause-there
meet-requires-clause-there c = station_across c.args.stations.now c.args.earlier _ c.args.last.now c.requires.inside c.requires.linked

pub meet-requires-clause-back : goal.meet-requires-clause-back
meet-requires-clause-back c = station_back c.args.stations.now c.args.earlier _ c.args.last.now c.requires.inside c.requires.linked

pub returns : goal.returns
returns c =
    station_pair c.args.stations.now c.args.earlier _ c.meet.new.self c.args.last.now c.meet.new.other c.requires.inside c.requires.linked
    c.meet.ensures.look c.meet.ensures.seats c.meet.ensures.others
