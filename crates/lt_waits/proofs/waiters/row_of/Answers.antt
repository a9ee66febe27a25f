use Rattle.std.proofs.Common.{◌∙◌, sym}
use Rattle.lt_waits.specs.Serves.{graph_of}
use Rattle.lt_waits.proofs.BitLemmas.{row_marked, row_skipped}
use Rattle.lt_waits.proofs.waiters.row_of.Goals as goal
use Rattle.lt_waits.proofs.waiters.row_of.Goals.{then-waits, else-waits}

pub loop-other-preserved : goal.loop-other-preserved
loop-other-preserved c =
    let n = c.args.graph.now.clients in
    let graph = graph_of c.args.graph.now in
    let before = c.loop-other.invariant in
    elim c.if-waits.branch [
      | then-waits w ↦ rw w.row-is (record {
        words = w.insert.ensures.words ∙ before.words;
        marked =
            row_marked graph n c.args.client c.loop-other.other c.loop-other.row before.marked w.insert.new.self w.insert.ensures.own w.insert.ensures.others
            (sym c.waits.ensures ∙ w.if-waits.true);
      })
      | else-waits w ↦ rw w.row-is (record {
        words = before.words;
        marked = row_skipped graph n c.args.client c.loop-other.other c.loop-other.row before.marked (sym c.waits.ensures ∙ w.if-waits.false);
      })
    ]
