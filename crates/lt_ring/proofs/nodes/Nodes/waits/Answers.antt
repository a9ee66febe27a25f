use Rattle.std.proofs.Common.{rules, ◌≡◌, ◌++◌, ◌∷◌, []}
use Rattle.lt_ring.proofs.SeenWaits.{waits_more}
use Rattle.lt_ring.proofs.nodes.Nodes.waits.Goals as goal

pub loop-client-preserved : goal.loop-client-preserved
loop-client-preserved c =
    let pushed : c.push.new.self.items ≡ c.loop-client.waits.items ++ c.wait.result ∷ [] = search rules in
    waits_more c.args.self.now c.loop-client.client c.loop-client.waits.items c.push.new.self.items c.wait.result c.loop-client.invariant c.wait.ensures pushed
