-- The move with its event lines.
use Rattle.std.proofs.Common.{◌∙◌, ap}
use Rattle.lt_merge.specs.Merging.{with_events}
use Rattle.lt_merge.proofs.Taking.{pushed}
use Rattle.lt_runner.proofs.making.log_move.Goals as goal

pub returns-clause-log : goal.returns-clause-log
returns-clause-log c =
    c.note_events.ensures.entries
    ∙ (ap (λ es. with_events es c.args.out.now.events) c.push.ensures.entries
    ∙ pushed c.args.log.now.entries c.args.made c.args.out.now.events)
