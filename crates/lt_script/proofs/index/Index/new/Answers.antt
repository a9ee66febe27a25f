use Rattle.std.proofs.Common.{rules, ◌≡◌, replicate, [], arith, sym, subst}
use Rattle.lt_script.specs.Index.{IsIndex}
use Rattle.lt_script.proofs.IndexLemmas.{index_empty}
use Rattle.lt_script.proofs.index.Index.new.Goals as goal

pub invariant_of-result : goal.invariant_of-result
invariant_of-result g c =
    let name_of = g.T.Named.name_of in
    let none : c.in_ok-vec.field-0.items ≡ replicate 512 0 = search rules in
    rw (c.new.ensures.items, c.new-2.ensures.items) (subst (λ lasts. IsIndex name_of [] lasts []) (sym none) (index_empty name_of 512 (omega arith)))
