use Rattle.std.proofs.Common.{ap, arith, length, ◌∙◌, sym, Option, ◌<◌, Some, refl, option_map}
use Rattle.std.proofs.lemmas.Option.{slice_get_read}
use Rattle.lt_merge.specs.declared.run.Mark.{Mark}
use Rattle.lt_merge.specs.Merging.{RunData, made_at}
use Rattle.lt_merge.specs.Marks.{move_by}
use Rattle.lt_merge.proofs.Laid.{length-entries_of, made_at-entries_of}
use Rattle.lt_merge.proofs.run.Run.made.Goals as goal

pub index-requires : goal.index-requires
index-requires c =
    let inside = c.self.inside in
    omega (arith, length-entries_of inside.moves.items inside.events.items, inside.moves.ok.0, ap (λ (run : RunData). length run.entries) c.self.view_is, c.requires)

pub returns : goal.returns
returns c =
    let inside = c.self.inside in
    let here : c.args.k < length inside.moves.items = omega (arith, length-entries_of inside.moves.items inside.events.items, ap (λ (run : RunData). length run.entries) c.self.view_is, c.requires) in
    sym (ap (λ (run : RunData). made_at run.entries c.args.k) c.self.view_is)
    ∙ (made_at-entries_of inside.moves.items inside.events.items c.args.k
    ∙ (ap (λ (o : Option Mark). option_map move_by o) (slice_get_read inside.moves.items (length inside.moves.items) c.args.k _ refl here c.index.ensures)
    ∙ ap Some (sym c.made.ensures)))
