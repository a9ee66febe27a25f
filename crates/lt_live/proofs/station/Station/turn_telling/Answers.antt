-- The runner goes on, and sessions keep their other ends.
use Rattle.std.proofs.Common.{subst, sym}
use Rattle.lt_live.specs.Stations.{StationData, IsSeated}
use Rattle.lt_live.specs.Live.{GoesOn}
use Rattle.lt_live.proofs.Telling.{seats_stay}
use Rattle.lt_live.proofs.Settling.{turn_goes_on}
use Rattle.lt_live.proofs.station.Station.turn_telling.Goals as goal

pub returns-clause-goes_on : goal.returns-clause-goes_on
returns-clause-goes_on g c =
    subst (λ (d : StationData). GoesOn d.runner c.turn_of_telling.new.runner) c.self.view_is
    (turn_goes_on c.turn_of_telling.result.turned c.self.inside.runner c.self.inside.seats.items c.turn_of_telling.new.runner c.turn_of_telling.new.seats.items c.turn_of_telling.ensures.turns c.turn_of_telling.ensures.kept)

pub returns-clause-seated : goal.returns-clause-seated
returns-clause-seated g c = λ s seated.
    seats_stay c.turn_of_telling.result.turned c.self.inside.runner c.self.inside.seats.items c.turn_of_telling.new.runner c.turn_of_telling.new.seats.items c.turn_of_telling.ensures.turns s
    (subst (λ (d : StationData). IsSeated s d.seats) (sym c.self.view_is) seated)
