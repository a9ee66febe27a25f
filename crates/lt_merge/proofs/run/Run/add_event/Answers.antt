use Rattle.std.proofs.Common.{ap, ◌∙◌, arith, List, ◌≡◌, length, vec_len}
use Rattle.lt_modes.specs.declared.event.Event.{Event}
use Rattle.lt_merge.specs.Merging.{RunData, with_event}
use Rattle.lt_merge.specs.Marks.{entries_of}
use Rattle.lt_merge.proofs.Laid.{laid_grow, entries_of-event, length-entries_of}
use Rattle.lt_merge.proofs.run.Run.add_event.Goals as goal

pub invariant_of-self : goal.invariant_of-self
invariant_of-self c = (
  c.self.invariant.0,
  omega (arith, c.push_reserved.ensures.len, ap (λ (run : RunData). run.room) c.self.view_is, c.requires.room),
  rw c.push_reserved.ensures.len (laid_grow c.self.inside.moves.items _ c.self.invariant.2),
)

pub returns-clause-entries : goal.returns-clause-entries
returns-clause-entries c =
    let before = c.self.inside in
    let count : length before.events.items ≡ vec_len before.events = omega (arith, before.events.ok.0) in
    ap (λ (es : List Event). entries_of before.moves.items es) c.push_reserved.ensures.items
    ∙ (entries_of-event before.moves.items before.events.items c.args.event
    (rw count c.self.invariant.2)
    (omega (arith, length-entries_of before.moves.items before.events.items, ap (λ (run : RunData). length run.entries) c.self.view_is, c.requires.some))
    ∙ ap (λ (run : RunData). with_event run.entries c.args.event) c.self.view_is)
