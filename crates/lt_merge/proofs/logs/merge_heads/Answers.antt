use Rattle.std.proofs.Common.{◌++◌, List, take, ap, sym, subst, arith, ◌∙◌, eqb-true, append_assoc}
use Rattle.lt_spec.specs.World.{Logged}
use Rattle.lt_merge.specs.Merging.{Merges}
use Rattle.lt_merge.specs.Heads.{rest_of}
use Rattle.lt_merge.proofs.Taking.{all_taken, head_inside, log_inside, not_empty}
use Rattle.lt_merge.proofs.logs.merge_heads.Goals as goal

pub take_move-requires-clause-place : goal.take_move-requires-clause-place
take_move-requires-clause-place c =
    let some = not_empty c.loop-heads.heads.len (sym c.is_empty.ensures ∙ c.loop-heads-test.true) in
    head_inside c.args.logs.now c.loop-heads.heads.items c.index-head.result.now c.loop-heads.invariant.are_heads (omega (arith, some, c.loop-heads.heads.ok.0)) c.index-head.ensures

pub take_move-requires-clause-log : goal.take_move-requires-clause-log
take_move-requires-clause-log c =
    log_inside c.args.logs.now c.index-head.result.now.log c.index-head.result.now.place (take_move-requires-clause-place c)

pub loop-heads-preserved : goal.loop-heads-preserved
loop-heads-preserved c =
    let logs = c.args.logs.now in
    let head = c.index-head.result.now in
    let one = take 1 (rest_of logs head) in
    let before = c.loop-heads.run.entries in
    let invariant = c.loop-heads.invariant in
    record {
      are_heads = c.advance.ensures.are_heads;
      more = λ run merged. subst (Merges logs) (sym (ap (λ (l : List Logged). l ++ run) c.in_ok-take_move.ensures ∙ append_assoc before one run))
          (invariant.more (one ++ run) (c.advance.ensures.next run merged));
    }

pub returns : goal.returns
returns c =
    let none = eqb-true c.loop-heads.heads.len 0 (sym c.is_empty.ensures ∙ c.loop-heads-test.false) in
    all_taken c.args.logs.now c.loop-heads.heads.items c.loop-heads.run.entries (omega (arith, none, c.loop-heads.heads.ok.0)) c.loop-heads.invariant.more
