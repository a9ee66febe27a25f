use Rattle.std.proofs.Common.{◌≡◌, ◌<◌, length, map, ap, arith, rules, slice_set, refl, sym}
use Rattle.lt_modes.specs.State.{Entry, record_of}
use Rattle.lt_table.specs.Seen.{entry_seen, spare_of}
use Rattle.lt_table.specs.TableData.{put_by, told_frozen}
use Rattle.lt_table.proofs.KnownLemmas.{known_same}
use Rattle.lt_table.proofs.RecountLemmas.{spare_set, entries_put, recounted, still_kept}
use Rattle.lt_table.proofs.table.Table.tell_frozen.Goals as goal

pub returns-then-x-len : goal.returns-then-x-len
returns-then-x-len c =
    let es = c.self.inside.entries.items in
    let x = c.from-x.result in
    let e = c.index_mut-entry.result.now in
    let new = c.tell_frozen.new.self in
    let within : x < length es = search rules in
    let entries : map entry_seen (slice_set es x new) ≡ put_by c.args.node (told_frozen c.args.modes) c.args.self.now.entries =
    entries_put (told_frozen c.args.modes) es c.args.self.now.entries x c.args.node e new
    (ap (λ t. t.entries) c.self.view_is) c.from-x.ensures within c.index_mut-entry.ensures.value c.tell_frozen.ensures.entry in
    λ i. record { entries = entries i; spare = (c.self.view_is i).spare }

pub invariant_of-self : goal.invariant_of-self
invariant_of-self c =
    let es = c.self.inside.entries.items in
    let x = c.from-x.result in
    let e = c.index_mut-entry.result.now in
    let new = c.tell_frozen.new.self in
    let within : x < length es = search rules in
    let there = c.index_mut-entry.ensures.value in
    let same = c.tell_frozen.ensures.entry in
    let counts = c.self.inside.counts in (
      search rules,
      (
        recounted es counts counts x e new (record_of (entry_seen e)) (record_of (entry_seen e))
            c.self.invariant.1.0 within there refl (sym (ap record_of same)) (λ mode. refl),
        (
          omega (arith, c.self.invariant.1.1.0, spare_set es x new e 0 (omega (arith, c.tell_frozen.ensures.spare, ap spare_of there))),
          (
            still_kept es c.self.inside.told c.still_told-self-inside.result x e new c.record-known.result c.args.modes
                c.self.invariant.1.1.1.0 within there c.record-known.ensures (sym (ap (λ (entry : Entry). entry.frozen_told) same)) c.still_told-self-inside.ensures,
            known_same es c.self.inside.recorded x e new c.self.invariant.1.1.1.1 within there (ap record_of same),
          ),
        ),
      ),
    )
