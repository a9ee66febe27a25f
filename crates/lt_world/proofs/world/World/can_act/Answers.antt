use Rattle.std.proofs.Common.{◌≡◌, ◌<◌, ◌∙◌, true, length, arith, sym, ap}
use Rattle.lt_lists.proofs.Searches.{any_below_at}
use Rattle.lt_modes.specs.declared.moves.Step.TheVariants.{Act}
use Rattle.lt_spec.specs.World.{is_enabled}
use Rattle.lt_world.specs.Fields.{WorldData, world_of}
use Rattle.lt_world.proofs.world.World.can_act.Goals as goal

pub returns-then-enabled : goal.returns-then-enabled
returns-then-enabled c =
    let w = c.args.self.now in
    let enabled : is_enabled w.script (world_of w) c.args.node (Act c.loop-client.client) ≡ true = sym c.enabled.ensures ∙ c.if-enabled.true in
    let clients = ap (λ (w : WorldData). length w.script.clients) c.self.view_is in
    let inside : c.loop-client.client < length w.script.clients = omega (arith, c.loop-client-test.true, c.clients-client-end.ensures.clients, clients) in
    sym (any_below_at (length w.script.clients) c.loop-client.client (λ client. is_enabled w.script (world_of w) c.args.node (Act client)) inside enabled)
