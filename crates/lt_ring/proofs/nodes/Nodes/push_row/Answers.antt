use Rattle.std.proofs.Common.{rules, ◌≡◌, ◌∙◌, ◌++◌, ◌∷◌, [], Bool, ap}
use Rattle.lt_ring.specs.Seen.{waits_seen}
use Rattle.lt_ring.proofs.Marked.{row_more}
use Rattle.lt_ring.proofs.nodes.Nodes.push_row.Goals as goal

pub loop-other-preserved : goal.loop-other-preserved
loop-other-preserved c =
    let row = waits_seen c.args.self.now c.args.client in
    let pushed : c.push.new.self.items ≡ c.loop-other.pairs.items ++ c.waits_for.result ∷ [] = search rules in
    row_more row c.args.pairs.now.items c.loop-other.pairs.items c.push.new.self.items c.loop-other.other c.loop-other.invariant
    (pushed ∙ ap (λ (b : Bool). c.loop-other.pairs.items ++ b ∷ []) c.waits_for.ensures)
