-- The station goes on.
use Rattle.std.proofs.Common.{subst}
use Rattle.lt_live.specs.Stations.{StationData}
use Rattle.lt_live.specs.Live.{StationGoesOn}
use Rattle.lt_live.proofs.Forgotten.{forgets_on, read_stays}
use Rattle.lt_live.proofs.station.Station.forget_moves.Goals as goal

pub returns-clause-goes_on : goal.returns-clause-goes_on
returns-clause-goes_on c =
    let forgets = c.forget_of.ensures.forgets in
    subst (λ (d : StationData). StationGoesOn d (record { runner = c.forget_of.new.runner; seats = c.forget_of.new.seats.items })) c.self.view_is
    (record {
      runner = forgets_on c.self.inside.runner c.forget_of.new.runner forgets.runner;
      seated = read_stays c.self.inside.runner.log.entries c.self.inside.seats.items c.forget_of.new.seats.items forgets.reads;
    })
