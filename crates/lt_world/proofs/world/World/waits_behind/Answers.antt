use Rattle.std.proofs.Common.{◌≡◌, ◌<◌, ◌∙◌, ℕ, Bool, true, arith, sym, ap, ◌||◌}
use Rattle.lt_lists.proofs.Searches.{any_below_at}
use Rattle.lt_modes.specs.Waiting.{stands_before, parked_behind}
use Rattle.lt_spec.specs.Facts.{state_at}
use Rattle.lt_world.specs.Fields.{WorldData, world_of}
use Rattle.lt_world.proofs.world.World.waits_behind.Goals as goal

pub returns-then-is_behind : goal.returns-then-is_behind
returns-then-is_behind c =
    let w = c.args.self.now in
    let behind : ℕ → Bool = λ q. stands_before (state_at (world_of w) c.args.set q) c.args.other c.args.client
    || parked_behind (state_at (world_of w) c.args.set q) c.args.other c.args.client in
    let here : behind c.loop-node.node ≡ true = sym c.is_behind.ensures ∙ c.if-is_behind.true in
    let nodes = ap (λ (w : WorldData). w.script.nodes) c.self.view_is in
    let inside : c.loop-node.node < w.script.nodes = omega (arith, c.loop-node-test.true, c.nodes-node-end.ensures.nodes, nodes) in
    sym (any_below_at w.script.nodes c.loop-node.node behind inside here)
