use Rattle.std.proofs.Common.{◌∙◌, ap}
use Rattle.lt_merge.specs.Merging.{with_events}
use Rattle.lt_merge.proofs.Taking.{pushed}
use Rattle.lt_world.proofs.network.record_move.Goals as goal

pub returns-clause-entries : goal.returns-clause-entries
returns-clause-entries c =
    c.note_events.ensures.entries
    ∙ (ap (λ es. with_events es c.args.out.now.events) c.push.ensures.entries
    ∙ pushed c.args.run.now.entries c.args.made c.args.out.now.events)
