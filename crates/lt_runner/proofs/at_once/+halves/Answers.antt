-- One runner, and two halves.
use Rattle.std.proofs.Common.{rules, arith}
use Rattle.lt_runner.specs.AtOnce.{AllWorked}
use Rattle.lt_runner.proofs.AtOnceLemmas.{alone_worked, both_worked}
use Rattle.lt_runner.proofs.at_once.+halves.Goals as goal

pub work_all-returns-then-count-eq1 : goal.work_all-returns-then-count-eq1
work_all-returns-then-count-eq1 g t c =
    alone_worked c.work.result c.args.patience c.args.runners.now c.index-runners-0.result c.work.new.self (omega arith)
    (record { grew = c.work.ensures.grew; ends = c.work.ensures.ends; flushed = c.work.ensures.flushed; at_once = c.work.ensures.at_once })

pub work_both-returns : goal.work_both-returns
work_both-returns g t c =
    let front : AllWorked c.join_mut-first.result.0 c.args.patience c.args.front.now c.front-1.given.0 = search rules in
    let back : AllWorked c.join_mut-first.result.1 c.args.patience c.args.back.now c.back-1.given.0 = search rules in
    rw c.worse_of.ensures (both_worked _ _ c.args.patience c.args.front.now c.args.back.now _ _ front back)
