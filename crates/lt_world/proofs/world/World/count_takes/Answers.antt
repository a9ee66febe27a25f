use Rattle.std.proofs.Common.{◌≡◌, ◌∙◌, length, ap, subst}
use Rattle.lt_spec.specs.FixedOrder.{takes}
use Rattle.lt_world.specs.Fields.{WorldData, world_of}
use Rattle.lt_world.proofs.Premises.{takes_are}
use Rattle.lt_world.proofs.world.World.count_takes.Goals as goal

pub returns-clause-count : goal.returns-clause-count
returns-clause-count c =
    let s = c.self.inside in
    subst (λ (w : WorldData). c.count_takes.result ≡ length (takes w.script (world_of w))) c.self.view_is
    (c.count_takes.ensures.count ∙ ap length (takes_are s.script s.network.nodes.items s.network.inboxes s.network.out s.network.run.entries c.self.invariant.holds))
