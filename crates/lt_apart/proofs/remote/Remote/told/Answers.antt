-- The node looked at all its rings.
use Rattle.std.proofs.Common.{List, sym, subst}
use Rattle.lt_runner.specs.declared.parts.Parts.{Parts}
use Rattle.lt_live.specs.declared.ends.Seat.{Seat}
use Rattle.lt_live.specs.OneNode.{IsNodeOfScript}
use Rattle.lt_live.specs.Stations.{StaySeated}
use Rattle.lt_apart.specs.Remote.{RemoteData, HasFarEnds, me}
use Rattle.lt_apart.proofs.FarEnds.{far_ends_looked}
use Rattle.lt_apart.proofs.NodeFacts.{told_now}
use Rattle.lt_apart.proofs.remote.Remote.told.Goals as goal

pub invariant_of-self : goal.invariant_of-self
invariant_of-self c =
    far_ends_looked c.settle.new.station c.look_at_rings.new.station c.self.inside.ends.far c.look_at_rings.new.far c.self.inside.ends.given.items
    c.self.inside.ends.brought.items
    (subst (λ (p : Parts). HasFarEnds p c.self.inside.ends.far c.self.inside.ends.given.items c.self.inside.ends.brought.items)
    (sym c.settle.ensures.runner) c.self.invariant) c.look_at_rings.ensures.only

pub returns-clause-now : goal.returns-clause-now
returns-clause-now c = λ script of.
    let far = far_ends_looked c.settle.new.station c.look_at_rings.new.station c.self.inside.ends.far c.look_at_rings.new.far
    c.self.inside.ends.given.items c.self.inside.ends.brought.items
    (subst (λ (p : Parts). HasFarEnds p c.self.inside.ends.far c.self.inside.ends.given.items c.self.inside.ends.brought.items)
    (sym c.settle.ensures.runner) c.self.invariant) c.look_at_rings.ensures.only in
    told_now script (me c.args.self.now) c.settle.new.station c.look_at_rings.new.station c.self.inside.ends.far c.look_at_rings.new.far
    c.self.inside.ends.given.items c.self.inside.ends.brought.items far c.look_at_rings.ensures c.kept.ensures c.runner_kept.ensures
    (subst (λ (p : Parts). IsNodeOfScript script (me c.args.self.now) p) (sym c.settle.ensures.runner)
    (subst (λ (r : RemoteData). IsNodeOfScript script (me c.args.self.now) r.station.runner) (sym c.self.view_is) of))

pub returns-clause-stay : goal.returns-clause-stay
returns-clause-stay c =
    subst (λ (r : RemoteData). StaySeated r.station.seats c.look_at_rings.new.station.seats) c.self.view_is
    (subst (λ (seats : List Seat). StaySeated c.self.inside.station.seats seats) (sym c.look_at_rings.ensures.only.seats) c.settle.ensures.stay)
