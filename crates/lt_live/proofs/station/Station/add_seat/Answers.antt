-- The station stays one.
use Rattle.std.proofs.Common.{List, subst, sym}
use Rattle.lt_live.specs.declared.ends.Seat.{Seat}
use Rattle.lt_live.specs.Stations.{StationData, IsSeatOf, IsStation, AreOthers}
use Rattle.lt_live.proofs.KeptStations.{station_more}
use Rattle.lt_live.proofs.station.Station.add_seat.Goals as goal

pub invariant_of-self-2 : goal.invariant_of-self-2
invariant_of-self-2 c =
    subst (λ (seats : List Seat). IsStation c.self.inside.runner seats) (sym c.in_ok-push.ensures.items)
    (station_more c.self.inside.runner c.self.inside.seats.items c.args.seat c.self.invariant
    (subst (λ (s : StationData). IsSeatOf s.runner c.args.seat) (sym c.self.view_is) c.requires.seat)
    (subst (λ (s : StationData). AreOthers c.args.seat.client s.seats) (sym c.self.view_is) c.requires.others))
