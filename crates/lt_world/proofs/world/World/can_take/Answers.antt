use Rattle.std.proofs.Common.{◌≡◌, ◌<◌, ◌∙◌, true, arith, sym, ap}
use Rattle.lt_lists.proofs.Searches.{any_below_at}
use Rattle.lt_modes.specs.declared.moves.Step.TheVariants.{Take}
use Rattle.lt_spec.specs.World.{is_enabled}
use Rattle.lt_world.specs.Fields.{WorldData, world_of}
use Rattle.lt_world.proofs.world.World.can_take.Goals as goal

pub returns-then-enabled : goal.returns-then-enabled
returns-then-enabled c =
    let w = c.args.self.now in
    let enabled : is_enabled w.script (world_of w) c.args.node (Take c.loop-sender.sender) ≡ true = sym c.enabled.ensures ∙ c.if-enabled.true in
    let nodes = ap (λ (w : WorldData). w.script.nodes) c.self.view_is in
    let inside : c.loop-sender.sender < w.script.nodes = omega (arith, c.loop-sender-test.true, c.nodes-sender-end.ensures.nodes, nodes) in
    sym (any_below_at w.script.nodes c.loop-sender.sender (λ p. is_enabled w.script (world_of w) c.args.node (Take p)) inside enabled)
