use Rattle.std.proofs.Common.{◌≡◌, ◌∙◌, ◌+◌, ◌<◌, ◌≤◌, ℕ, false, length, ap, sym, subst, arith}
use Rattle.lt_modes.specs.Freezing.{is_target}
use Rattle.lt_table.specs.TableData.{TableData, entry_at, put_by}
use Rattle.lt_desk.specs.DeskData.{HasBits, told_target}
use Rattle.lt_desk.proofs.FreezeLemmas.{map_first, first_put, first_all, first_until, entry_later, length-map_first, no_target, target_same}
use Rattle.lt_desk.proofs.MaskLemmas.{bits_set, bits_kept, bits_until}
use Rattle.lt_desk.proofs.freezes.tell_each.Goals as goal
use Rattle.lt_desk.proofs.freezes.tell_each.Goals.{then-tell_node, else-tell_node}

pub next_recorded-requires : goal.next_recorded-requires
next_recorded-requires c =
    let f = told_target c.args.me c.args.modes in
    omega (arith, c.requires, ap length c.loop-x.invariant.entries, length-map_first f c.loop-x.from 0 c.args.table.now.entries)

pub overflow_shl-nodes : goal.overflow_shl-nodes
overflow_shl-nodes c =
    let f = told_target c.args.me c.args.modes in
    omega (arith, c.requires, c.in-Some.ensures.some.within, ap length c.loop-x.invariant.entries, length-map_first f c.loop-x.from 0 c.args.table.now.entries)

pub overflow_add-from : goal.overflow_add-from
overflow_add-from c =
    let f = told_target c.args.me c.args.modes in
    omega (arith, c.requires, c.in-Some.ensures.some.within, ap length c.loop-x.invariant.entries, length-map_first f c.loop-x.from 0 c.args.table.now.entries)

pub loop-x-smaller : goal.loop-x-smaller
loop-x-smaller c =
    let f = told_target c.args.me c.args.modes in
    let next = c.in-Some.ensures.some in
    omega (arith, next.after, next.within, ap length c.loop-x.invariant.entries, length-map_first f c.loop-x.from 0 c.args.table.now.entries)

pub loop-x-preserved : goal.loop-x-preserved
loop-x-preserved c =
    let f = told_target c.args.me c.args.modes in
    let test = is_target c.args.me c.args.modes in
    let es = c.args.table.now.entries in
    let now = c.loop-x.table.entries in
    let from = c.loop-x.from in
    let x = c.in-Some.x in
    let inv = c.loop-x.invariant in
    let next = c.in-Some.ensures.some in
    let same : (y : ℕ) → from ≤ y → entry_at now y ≡ entry_at es y = λ y late.
    ap (λ all. entry_at all y) inv.entries ∙ entry_later f from y 0 es late in
    let none : (y : ℕ) → from ≤ y → y < x → test y (entry_at es y) ≡ false = λ y late less.
    no_target c.args.me c.args.modes y es now (same y late) (next.none y late less) in
    let within : x < length es = omega (arith, next.within, ap length inv.entries, length-map_first f from 0 es) in
    let target : c.tell_node.result ≡ test x (entry_at es x) = c.tell_node.ensures.target ∙ ap (test x) (same x next.after) in
    let before : now ≡ map_first f x 0 es =
    inv.entries ∙ first_until f from x es next.after (λ y late less. target_same c.args.me c.args.modes y (entry_at es y) (none y late less)) in
    let bits = bits_until test from x es c.loop-x.nodes next.after none inv.bits in
    record {
      inside = omega (arith, within);
      entries = ap (λ (t : TableData). t.entries) c.tell_node.ensures.table ∙ ap (put_by x (f x)) before ∙ first_put f x es;
      spare = ap (λ (t : TableData). t.spare) c.tell_node.ensures.table ∙ inv.spare;
      bits = elim c.if-tell_node.branch [
        | then-tell_node w ↦ subst (HasBits test (x + 1) es) (sym w.nodes-is) (bits_set test x es c.loop-x.nodes (omega (arith, within, c.requires)) (sym target ∙ w.if-tell_node.true) bits)
        | else-tell_node w ↦ subst (HasBits test (x + 1) es) (sym w.nodes-is) (bits_kept test x es c.loop-x.nodes (sym target ∙ w.if-tell_node.false) bits)
      ];
    }

pub returns-clause-table : goal.returns-clause-table
returns-clause-table c =
    let f = told_target c.args.me c.args.modes in
    let es = c.args.table.now.entries in
    let now = c.loop-x.table.entries in
    let from = c.loop-x.from in
    let inv = c.loop-x.invariant in
    let none = c.in_default.ensures.none in
    let entries = inv.entries
    ∙ first_until f from (length es) es inv.inside (λ y late less. target_same c.args.me c.args.modes y (entry_at es y)
    (no_target c.args.me c.args.modes y es now (ap (λ all. entry_at all y) inv.entries ∙ entry_later f from y 0 es late) (none y late)))
    ∙ first_all f 0 es in
    λ i. record { entries = entries i; spare = inv.spare i }

pub returns-clause-nodes : goal.returns-clause-nodes
returns-clause-nodes c =
    let f = told_target c.args.me c.args.modes in
    let es = c.args.table.now.entries in
    let now = c.loop-x.table.entries in
    let from = c.loop-x.from in
    let inv = c.loop-x.invariant in
    bits_until (is_target c.args.me c.args.modes) from (length es) es c.loop-x.nodes inv.inside
    (λ y late less. no_target c.args.me c.args.modes y es now (ap (λ all. entry_at all y) inv.entries ∙ entry_later f from y 0 es late) (c.in_default.ensures.none y late))
    inv.bits
