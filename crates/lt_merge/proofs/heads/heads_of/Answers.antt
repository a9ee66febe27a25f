use Rattle.std.proofs.Common.{◌≡◌, ◌+◌, ◌-◌, ap, sym, subst, arith, ◌∙◌, ℕ}
use Rattle.lt_merge.specs.Heads.{Begins, IsHeadAt, placed, settled_heads}
use Rattle.lt_merge.proofs.Placing.{head_found, none_found}
use Rattle.lt_merge.proofs.heads.heads_of.Goals as goal

pub loop-log-preserved-in-Some : goal.loop-log-preserved-in-Some
loop-log-preserved-in-Some c =
    let logs = c.args.logs.now in
    let k = c.loop-log.log - 1 in
    let heads = c.loop-log.heads.items in
    let one_more : c.loop-log.log ≡ k + 1 = omega arith in
    let begun = subst (λ (n : ℕ). Begins logs n heads) one_more c.loop-log.invariant.begun in
    let at = subst (IsHeadAt logs k 0) c.in-Some.is c.head_at.ensures in
    let now : c.settle.new.heads.items ≡ placed c.in-Some.head heads = c.settle.ensures ∙ ap settled_heads c.in_ok-insert-in-Some.ensures.items in
    record {
      inside = omega (arith, c.loop-log.invariant.inside);
      begun = subst (Begins logs k) (sym now) (head_found logs k c.in-Some.head heads c.requires (omega (arith, c.loop-log.invariant.inside)) at begun);
    }

pub loop-log-preserved : goal.loop-log-preserved
loop-log-preserved c =
    let logs = c.args.logs.now in
    let k = c.loop-log.log - 1 in
    let heads = c.loop-log.heads.items in
    let one_more : c.loop-log.log ≡ k + 1 = omega arith in
    let begun = subst (λ (n : ℕ). Begins logs n heads) one_more c.loop-log.invariant.begun in
    let at = subst (IsHeadAt logs k 0) c.in-None.is c.head_at.ensures in
    record {
      inside = omega (arith, c.loop-log.invariant.inside);
      begun = none_found logs k heads c.requires (omega (arith, c.loop-log.invariant.inside)) at begun;
    }
