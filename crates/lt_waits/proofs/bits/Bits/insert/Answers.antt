use Rattle.std.proofs.Common.{◌≡◌, ◌∙◌, ◌*◌, ◌<◌, List, ℕ, ap, arith, length, slice_index_or}
use Rattle.std.proofs.lemmas.List.{get_or_default}
use Rattle.lt_waits.specs.Bits.{row_has}
use Rattle.lt_waits.proofs.BitLemmas.{bit_set}
use Rattle.lt_waits.proofs.bits.Bits.insert.Goals as goal

pub returns-clause-own : goal.returns-clause-own
returns-clause-own c =
    let words = c.self.inside.words.items in
    let few : c.args.client < 64 * length words = omega (arith, c.requires, ap length c.self.view_is) in
    let is_read : c.index_mut.result.now ≡ slice_index_or words c.from.result 0 =
    c.index_mut.ensures.value ∙ get_or_default words c.from.result c.index_mut.result.now 0 (omega (arith, few, c.from.ensures)) in
    rw (is_read) (bit_set words c.args.client c.from.result c.from.ensures few).0

pub returns-clause-others : goal.returns-clause-others
returns-clause-others c = λ i apart.
    let words = c.self.inside.words.items in
    let few : c.args.client < 64 * length words = omega (arith, c.requires, ap length c.self.view_is) in
    let is_read : c.index_mut.result.now ≡ slice_index_or words c.from.result 0 =
    c.index_mut.ensures.value ∙ get_or_default words c.from.result c.index_mut.result.now 0 (omega (arith, few, c.from.ensures)) in
    rw (is_read) ((bit_set words c.args.client c.from.result c.from.ensures few).1 i apart ∙ ap (λ (bits : List ℕ). row_has bits i) c.self.view_is)
