-- The far ends are those of the same rings still.
use Rattle.std.proofs.Common.{ap, subst}
use Rattle.lt_mail.specs.Words.{on_in, taken}
use Rattle.lt_live.specs.Stations.{StaySeated}
use Rattle.lt_apart.specs.Remote.{RemoteData}
use Rattle.lt_apart.proofs.FarEnds.{far_ends_go_on}
use Rattle.lt_apart.proofs.remote.Remote.obey.Goals as goal

pub invariant_of-self : goal.invariant_of-self
invariant_of-self g c =
    far_ends_go_on c.self.inside.station.runner c.obey.new.self.runner c.self.inside.ends.far c.flush_all.new.self
    c.self.inside.ends.given.items c.self.inside.ends.brought.items c.self.invariant c.obey.ensures.goes_on c.flush_all.ensures.ends
    (λ node. ap (on_in taken) (c.flush_all.ensures.ins node)) c.flush_all.ensures.sent

pub returns-clause-seated : goal.returns-clause-seated
returns-clause-seated g c = subst (λ (r : RemoteData). StaySeated r.station.seats c.obey.new.self.seats) c.self.view_is c.obey.ensures.seated
