use Rattle.std.proofs.Common.{◌<◌, length, ap, arith, refl, rules, not}
use Rattle.lt_table.specs.Seen.{entry_seen}
use Rattle.lt_table.proofs.KnownLemmas.{known_kept}
use Rattle.lt_table.proofs.RecountLemmas.{entries_put, can_recount, recounted}
use Rattle.lt_table.proofs.table.Table.set.Goals as goal

pub returns-then-x-len : goal.returns-then-x-len
returns-then-x-len c =
    let es = c.self.inside.entries.items in
    let within : c.from-x.result < length es = search rules in
    entries_put (λ known. entry_seen c.args.entry) es c.args.self.now.entries c.from-x.result c.args.node c.index_mut-place.result.now c.args.entry
    (ap (λ t. t.entries) c.self.view_is) c.from-x.ensures within c.index_mut-place.ensures.value refl

pub shifted-self-inside-requires : goal.shifted-self-inside-requires
shifted-self-inside-requires c =
    let es = c.self.inside.entries.items in
    let within : c.from-x.result < length es = search rules in
    can_recount es c.self.inside.counts c.from-x.result c.index_mut-place.result.now c.args.entry c.record-before.result c.record-after.result
    c.self.invariant.0 c.self.invariant.1.0 within c.index_mut-place.ensures.value c.record-before.ensures c.record-after.ensures

pub invariant_of-self : goal.invariant_of-self
invariant_of-self c =
    let es = c.self.inside.entries.items in
    let x = c.from-x.result in
    let e = c.index_mut-place.result.now in
    let new = c.args.entry in
    let within : x < length es = search rules in
    let there = c.index_mut-place.ensures.value in (
      search rules,
      (
        recounted es c.self.inside.counts c.shifted-self-inside.result x e new c.record-before.result c.record-after.result
            c.self.invariant.1.0 within there c.record-before.ensures c.record-after.ensures c.shifted-self-inside.ensures,
        (
          omega arith,
          (
            tt,
            known_kept es c.self.inside.recorded c.marked-self-inside.result x c.args.node e new c.record-after.result _
                c.self.invariant.1.1.1.1 c.from-x.ensures within there c.record-after.ensures (ap not c.is_empty.ensures) c.marked-self-inside.ensures.own c.marked-self-inside.ensures.others,
          ),
        ),
      ),
    )
