-- The station with fewer commands in memory is one still.
use Rattle.std.proofs.Common.{subst, sym}
use Rattle.lt_runner.specs.declared.parts.Parts.{Parts}
use Rattle.lt_live.specs.Stations.{IsStation}
use Rattle.lt_live.proofs.Forgotten.{station_without}
use Rattle.lt_live.proofs.station.Station.forget_commands.Goals as goal

pub invariant_of-self : goal.invariant_of-self
invariant_of-self c =
    subst (λ (p : Parts). IsStation p c.self.inside.seats.items) (sym c.forget_commands.ensures.rest)
    (station_without c.self.inside.runner c.forget_commands.new.self.node.gone c.self.inside.seats.items c.self.invariant)
