-- The far ends are those of the same rings still.
use Rattle.std.proofs.Common.{refl, subst}
use Rattle.lt_mail.proofs.LookLemmas.{ends_same}
use Rattle.lt_live.specs.Stations.{StaySeated}
use Rattle.lt_apart.specs.Remote.{RemoteData}
use Rattle.lt_apart.proofs.FarEnds.{far_ends_go_on}
use Rattle.lt_apart.proofs.remote.Remote.forget_moves.Goals as goal

pub invariant_of-self : goal.invariant_of-self
invariant_of-self c =
    far_ends_go_on c.self.inside.station.runner c.forget_moves.new.self.runner c.self.inside.ends.far c.self.inside.ends.far
    c.self.inside.ends.given.items c.self.inside.ends.brought.items c.self.invariant c.forget_moves.ensures.goes_on.runner
    (ends_same c.self.inside.ends.far) (λ node. refl) (λ node. refl)

pub returns-clause-seated : goal.returns-clause-seated
returns-clause-seated c =
    subst (λ (r : RemoteData). StaySeated r.station.seats c.forget_moves.new.self.seats) c.self.view_is c.forget_moves.ensures.goes_on.seated
