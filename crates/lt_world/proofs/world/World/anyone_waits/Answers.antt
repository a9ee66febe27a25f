use Rattle.std.proofs.Common.{◌≡◌, ◌<◌, ◌∙◌, true, length, arith, sym, ap}
use Rattle.lt_lists.proofs.Searches.{any_below_at}
use Rattle.lt_spec.specs.World.{is_waiting}
use Rattle.lt_world.specs.Fields.{WorldData, world_of}
use Rattle.lt_world.proofs.world.World.anyone_waits.Goals as goal

pub returns-then-is_waiting : goal.returns-then-is_waiting
returns-then-is_waiting c =
    let w = c.args.self.now in
    let waiting : is_waiting w.script (world_of w) c.loop-client.client ≡ true = sym c.is_waiting.ensures ∙ c.if-is_waiting.true in
    let clients = ap (λ (w : WorldData). length w.script.clients) c.self.view_is in
    let inside : c.loop-client.client < length w.script.clients = omega (arith, c.loop-client-test.true, c.clients-client-end.ensures.clients, clients) in
    sym (any_below_at (length w.script.clients) c.loop-client.client (is_waiting w.script (world_of w)) inside waiting)
