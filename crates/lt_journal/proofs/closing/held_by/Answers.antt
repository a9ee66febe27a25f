use Rattle.lt_spec.specs.Holdings.{holdings}
use Rattle.lt_journal.specs.RunLines.{held_in_set}
use Rattle.lt_journal.proofs.Fitting.{list_more, lines_below-next}
use Rattle.lt_journal.proofs.closing.held_by.Goals as goal

pub loop-set-preserved : goal.loop-set-preserved
loop-set-preserved c = λ events tells.
    list_more _ _ _ _ _ _ (c.in_ok-held_in_set.ensures events tells) (c.loop-set.invariant events tells)
    (lines_below-next c.loop-set.set (held_in_set (holdings c.args.script.now events) c.args.client))
