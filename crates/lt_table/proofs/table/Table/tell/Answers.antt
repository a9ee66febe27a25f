use Rattle.std.proofs.Common.{◌<◌, length, ap, arith, refl, rules, not}
use Rattle.lt_modes.specs.State.{Tell}
use Rattle.lt_modes.specs.Telling.{told}
use Rattle.lt_table.specs.Seen.{spare_of}
use Rattle.lt_table.proofs.KnownLemmas.{known_kept}
use Rattle.lt_table.proofs.RecountLemmas.{spare_set, entries_put, can_recount, recounted, still_kept}
use Rattle.lt_table.proofs.table.Table.tell.Goals as goal

pub returns-then-x-len-clause-entries : goal.returns-then-x-len-clause-entries
returns-then-x-len-clause-entries c =
    let es = c.self.inside.entries.items in
    let within : c.from-x.result < length es = search rules in
    let tell : Tell = record { node = c.args.node; modes = c.args.modes; pending = c.args.pending.now; stamp = c.args.stamp } in
    entries_put (told tell) es c.args.self.now.entries c.from-x.result c.args.node c.index_mut-entry.result.now c.tell.new.self
    (ap (λ t. t.entries) c.self.view_is) c.from-x.ensures within c.index_mut-entry.ensures.value (c.tell.ensures.entry c.args.node)

pub shifted-self-inside-requires : goal.shifted-self-inside-requires
shifted-self-inside-requires c =
    let es = c.self.inside.entries.items in
    let e = c.index_mut-entry.result.now in
    let within : c.from-x.result < length es = search rules in
    can_recount es c.self.inside.counts c.from-x.result e c.tell.new.self c.record-before.result c.record-after.result
    c.self.invariant.0 c.self.invariant.1.0 within c.index_mut-entry.ensures.value c.record-before.ensures c.record-after.ensures

pub invariant_of-self : goal.invariant_of-self
invariant_of-self c =
    let es = c.self.inside.entries.items in
    let x = c.from-x.result in
    let e = c.index_mut-entry.result.now in
    let new = c.tell.new.self in
    let within : x < length es = search rules in
    let there = c.index_mut-entry.ensures.value in (
      search rules,
      (
        recounted es c.self.inside.counts c.shifted-self-inside.result x e new c.record-before.result c.record-after.result
            c.self.invariant.1.0 within there c.record-before.ensures c.record-after.ensures c.shifted-self-inside.ensures,
        (
          omega (arith, c.self.invariant.1.1.0, spare_set es x new e 0 (omega (arith, c.tell.ensures.spare, ap spare_of there))),
          (
            still_kept es c.self.inside.told c.still_told-self-inside.result x e new c.record-after.result new.frozen_told
                c.self.invariant.1.1.1.0 within there c.record-after.ensures refl c.still_told-self-inside.ensures,
            known_kept es c.self.inside.recorded c.marked-self-inside.result x c.args.node e new c.record-after.result _
                c.self.invariant.1.1.1.1 c.from-x.ensures within there c.record-after.ensures (ap not c.is_empty.ensures) c.marked-self-inside.ensures.own c.marked-self-inside.ensures.others,
          ),
        ),
      ),
    )
