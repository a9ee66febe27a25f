-- All sessions keep their other ends, and this one is served.
use Rattle.std.proofs.Common.{subst, sym}
use Rattle.lt_live.specs.Stations.{StationData, IsSeated, StaySeated}
use Rattle.lt_live.specs.Live.{ServedBy}
use Rattle.lt_live.proofs.Telling.{looked_stays}
use Rattle.lt_live.proofs.Settling.{look_stays, look_serves}
use Rattle.lt_live.proofs.station.Station.beside.Goals as goal

pub returns-clause-seated : goal.returns-clause-seated
returns-clause-seated c =
    looked_stays c.self.inside.runner.log.entries c.args.session.now c.beside_at.new.session c.self.inside.seats.items c.beside_at.new.seats.items c.beside_at.ensures.looks

pub returns-clause-stay : goal.returns-clause-stay
returns-clause-stay c =
    subst (λ (d : StationData). StaySeated d.seats c.beside_at.new.seats.items) c.self.view_is
    (look_stays c.self.inside.runner.log.entries c.args.session.now c.beside_at.new.session c.self.inside.seats.items c.beside_at.new.seats.items c.beside_at.ensures.looks)

pub returns-clause-served : goal.returns-clause-served
returns-clause-served c =
    subst (λ (d : StationData). ServedBy d.runner c.args.session.now.client c.beside_at.new.session) c.self.view_is
    (look_serves c.self.inside.runner c.args.session.now c.beside_at.new.session c.self.inside.seats.items c.beside_at.new.seats.items c.self.invariant
    (subst (λ (d : StationData). IsSeated c.args.session.now d.seats) (sym c.self.view_is) c.requires) c.beside_at.ensures.looks)
