use Rattle.std.proofs.Common.{rules, ◌≡◌, ◌∙◌, ◌++◌, ◌∷◌, [], Bool, ap}
use Rattle.lt_waits.specs.Serves.{graph_of}
use Rattle.lt_waits.specs.Reasons.{by_lock}
use Rattle.lt_waits.proofs.SoFar.{row_push}
use Rattle.lt_waits.proofs.locking.push_row.Goals as goal

pub loop-other-preserved : goal.loop-other-preserved
loop-other-preserved c =
    let row = by_lock c.args.tallied.now.script c.args.tallied.now.lines (graph_of c.args.graph.now) c.args.client in
    let pushed : c.push.new.self.items ≡ c.loop-other.pairs.items ++ c.waits_by_lock.result ∷ [] = search rules in
    row_push row c.args.pairs.now.items c.loop-other.pairs.items c.push.new.self.items c.loop-other.other c.loop-other.invariant
    (pushed ∙ ap (λ (b : Bool). c.loop-other.pairs.items ++ b ∷ []) c.waits_by_lock.ensures)
