use Rattle.std.proofs.Common.{ap, arith, length}
use Rattle.lt_merge.specs.Merging.{RunData}
use Rattle.lt_merge.proofs.Laid.{length-entries_of}
use Rattle.lt_merge.proofs.run.Run.events.Goals as goal

pub events_of-requires-clause-inside : goal.events_of-requires-clause-inside
events_of-requires-clause-inside c =
    let inside = c.self.inside in
    omega (arith, length-entries_of inside.moves.items inside.events.items, inside.moves.ok.0, ap (λ (run : RunData). length run.entries) c.self.view_is, c.requires, c.deref.ensures.len)
