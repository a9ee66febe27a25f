use Rattle.std.proofs.Common.{rules, ◌<◌, ◌+◌, map, take, length, Some, sym, ap, ◌∙◌, subst, arith}
use Rattle.std.specs.Mem.Slots.{slots_filled}
use Rattle.lt_pool.specs.Rule.{AllSome}
use Rattle.lt_pool.proofs.ClosingLemmas.{one_more, still_full, now_empty}
use Rattle.lt_pool.proofs.closing.taken_out.Goals as goal

pub take_item-requires-clause-item : goal.take_item-requires-clause-item
take_item-requires-clause-item g c = subst AllSome (sym c.loop-i.invariant.values) c.requires.full.1 _ (search rules)

pub loop-i-preserved : goal.loop-i-preserved
loop-i-preserved g c =
    let before = c.loop-i.invariant in
    let taken = c.take_item.ensures in
    let rows = c.loop-i.closed.slots.ok.1 in
    let wide = before.wide in
    let inside : c.loop-i.i < length (slots_filled c.loop-i.closed.slots) = omega arith in
    record {
      values = search rules;
      wide = search rules;
      full = λ k low high. still_full _ _ _ _ taken.filled before.full k low (subst (λ n. k < n) taken.count high);
      emptied = now_empty _ _ _ taken.filled inside before.emptied;
      items = ap (map Some) c.push_reserved.ensures.items
          ∙ (one_more _ _ _ _ taken.item before.items ∙ ap (take (c.loop-i.i + 1)) (sym taken.items));
      count = search rules;
      room = search rules;
    }
