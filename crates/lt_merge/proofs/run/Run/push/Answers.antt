use Rattle.std.proofs.Common.{◌≡◌, ◌++◌, ◌∷◌, [], ap, subst, ◌∙◌, arith, List, length, vec_len}
use Rattle.lt_modes.specs.declared.moves.Move.{Move}
use Rattle.lt_merge.specs.declared.run.Mark.{Mark}
use Rattle.lt_merge.specs.Merging.{just_made, RunData}
use Rattle.lt_merge.specs.Marks.{entries_of, IsLaid}
use Rattle.lt_merge.proofs.Laid.{laid_add, entries_of-push, length-entries_of}
use Rattle.lt_merge.proofs.run.Run.push.Goals as goal

pub invariant_of-self : goal.invariant_of-self
invariant_of-self c =
    let before = c.self.inside in (
      omega (arith, c.push_reserved.ensures.len, ap (λ (run : RunData). run.spare) c.self.view_is, c.requires.spare),
      c.self.invariant.1,
      rw c.push_reserved.ensures.items (laid_add before.moves.items _ _ _ (c.new.ensures.start ∙ c.len-start.ensures) (omega arith) c.self.invariant.2),
    )

pub returns-clause-few : goal.returns-clause-few
returns-clause-few c =
    let before = c.self.inside in
    omega (
      arith,
      length-entries_of c.push_reserved.new.self.items before.events.items,
      c.push_reserved.new.self.ok.0,
      c.push_reserved.ensures.len,
      ap (λ (run : RunData). run.spare) c.self.view_is,
      c.requires.spare,
    )

pub returns-clause-entries : goal.returns-clause-entries
returns-clause-entries c =
    let before = c.self.inside in
    let count : vec_len before.events ≡ length before.events.items = omega (arith, before.events.ok.0) in
    ap (λ (ms : List Mark). entries_of ms before.events.items) c.push_reserved.ensures.items
    ∙ (entries_of-push before.moves.items _ before.events.items (c.new.ensures.start ∙ (c.len-start.ensures ∙ count)) (subst (IsLaid before.moves.items) count c.self.invariant.2)
    ∙ (ap (λ (made : Move). entries_of before.moves.items before.events.items ++ just_made made ∷ []) c.new.ensures.made
    ∙ ap (λ (run : RunData). run.entries ++ just_made c.args.made ∷ []) c.self.view_is))
