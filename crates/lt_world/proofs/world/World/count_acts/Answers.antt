use Rattle.std.proofs.Common.{◌≡◌, ◌∙◌, subst}
use Rattle.lt_spec.specs.World.{world_after}
use Rattle.lt_spec.specs.FixedOrder.{count_acts}
use Rattle.lt_world.specs.Fields.{WorldData, world_of}
use Rattle.lt_world.proofs.TurnOrder.{counted}
use Rattle.lt_world.proofs.world.World.count_acts.Goals as goal

pub returns-clause-count : goal.returns-clause-count
returns-clause-count c =
    let s = c.self.inside in
    subst (λ (w : WorldData). c.count.result ≡ count_acts w.script (world_of w)) c.self.view_is
    (c.count.ensures ∙ counted s.script (world_after s.script s.network.run.entries) s.turns c.self.invariant.acts)
