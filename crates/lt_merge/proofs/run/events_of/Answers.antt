use Rattle.lt_merge.proofs.Laid.{events_at-entries_of}
use Rattle.lt_merge.proofs.run.events_of.Goals as goal

pub returns : goal.returns
returns c = events_at-entries_of c.args.moves.now c.args.events.now c.args.k _ _ c.part_of-part.ensures.part
