use Rattle.lt_spec.specs.Holdings.{holdings}
use Rattle.lt_journal.specs.RunLines.{held_by}
use Rattle.lt_journal.proofs.Fitting.{list_more, lines_below-next}
use Rattle.lt_journal.proofs.closing.held_lines.Goals as goal

pub loop-client-preserved : goal.loop-client-preserved
loop-client-preserved c = λ events tells.
    let script = c.args.script.now in
    list_more _ _ _ _ _ _ (c.in_ok-held_by.ensures events tells) (c.loop-client.invariant events tells)
    (lines_below-next c.loop-client.client (held_by script (holdings script events)))
