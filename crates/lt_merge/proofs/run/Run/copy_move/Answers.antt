use Rattle.std.proofs.Common.{ap, sym, subst, ◌∙◌, arith, length, ◌++◌, ◌∷◌, [], List, ◌≡◌, vec_len}
use Rattle.lt_modes.specs.declared.event.Event.{Event}
use Rattle.lt_modes.specs.declared.moves.Move.{Move}
use Rattle.lt_spec.specs.World.{Logged}
use Rattle.lt_merge.specs.declared.run.Mark.{Mark}
use Rattle.lt_merge.specs.Merging.{RunData}
use Rattle.lt_merge.specs.Marks.{entries_of, IsLaid}
use Rattle.lt_merge.proofs.Laid.{laid_add, entries_of-add}
use Rattle.lt_merge.proofs.Taking.{copied}
use Rattle.lt_merge.proofs.run.Run.copy_move.Goals as goal

pub invariant_of-self-2 : goal.invariant_of-self-2
invariant_of-self-2 c =
    let before = c.self.inside in
    let mark = c.new-mark.result in
    let marks : c.push_reserved.new.self.items ≡ before.moves.items ++ mark ∷ [] =
    c.push_reserved.ensures.items ∙ ap (λ (ms : List Mark). ms ++ mark ∷ []) c.in_ok-reserve.ensures.items in (
      omega (arith, c.push_reserved.ensures.len, c.in_ok-reserve.ensures.len, c.len.ensures, c.in_ok-check_count.ensures.few),
      omega (arith, c.in_ok-extend_from_slice.ensures.len, c.len-start.ensures, c.in_ok-check_count-2.ensures.few),
      subst (λ (ms : List Mark). IsLaid ms (vec_len c.extend_from_slice.new.self)) (sym marks)
          (laid_add before.moves.items mark (vec_len before.events) _ (c.new-mark.ensures.start ∙ c.len-start.ensures) (omega (arith, c.in_ok-extend_from_slice.ensures.len)) c.self.invariant.2),
    )

pub returns : goal.returns
returns c =
    let before = c.self.inside in
    let mark = c.new-mark.result in
    let events = c.events-events.result.now in
    let marks : c.push_reserved.new.self.items ≡ before.moves.items ++ mark ∷ [] =
    c.push_reserved.ensures.items ∙ ap (λ (ms : List Mark). ms ++ mark ∷ []) c.in_ok-reserve.ensures.items in
    let count : vec_len before.events ≡ length before.events.items = omega (arith, before.events.ok.0) in
    ap (λ (ms : List Mark). entries_of ms c.extend_from_slice.new.self.items) marks
    ∙ (ap (λ (es : List Event). entries_of (before.moves.items ++ mark ∷ []) es) c.in_ok-extend_from_slice.ensures.items
    ∙ (entries_of-add before.moves.items mark before.events.items events (c.new-mark.ensures.start ∙ (c.len-start.ensures ∙ count)) (subst (IsLaid before.moves.items) count c.self.invariant.2)
    ∙ (ap (λ (made : Move). entries_of before.moves.items before.events.items ++ record { made = made; events = events } ∷ []) c.new-mark.ensures.made
    ∙ (ap (λ (run : RunData). run.entries ++ record { made = c.made.result; events = events } ∷ []) c.self.view_is
    ∙ ap (λ (es : List Logged). c.args.self.now.entries ++ es) (sym (copied c.args.other.now.entries c.args.k c.made.result events c.made.ensures c.events-events.ensures))))))
