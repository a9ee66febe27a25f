use Rattle.std.proofs.Common.{◌≡◌, ◌∙◌, List, ◌++◌, ◌∷◌, [], Bool, ap, append_assoc, arith, map, sym}
use Rattle.std.proofs.lemmas.List.FromFn.{map-range_with_len_more}
use Rattle.lt_spec.specs.Holdings.{waits_behind_void}
use Rattle.lt_spec.specs.Rings.{numbers_below}
use Rattle.lt_world.specs.Fields.{world_of}
use Rattle.lt_world.proofs.world.World.push_voids.Goals as goal

pub loop-other-preserved : goal.loop-other-preserved
loop-other-preserved c =
    let w = c.args.self.now in
    let old = c.args.marks.now.items in
    let k = c.loop-other.other in
    let row = waits_behind_void w.script (world_of w) c.args.client in
    let mark : c.is_behind_void_by_marks.result ≡ row k = c.is_behind_void_by_marks.ensures ∙ sym (c.ask_of-ask.ensures.voids k) in (
      c.push_reserved.ensures.items
          ∙ ap (λ (b : Bool). c.loop-other.marks.items ++ b ∷ []) mark
          ∙ ap (λ (l : List Bool). l ++ row k ∷ []) c.loop-other.invariant.0
          ∙ append_assoc old (map row (numbers_below k)) (row k ∷ [])
          ∙ ap (λ (l : List Bool). old ++ l) (sym (map-range_with_len_more row 0 k k (omega arith))),
      omega (arith, c.loop-other.invariant.1, c.push_reserved.ensures.len, c.push_reserved.ensures.capacity),
    )
