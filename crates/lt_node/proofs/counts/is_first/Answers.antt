use Rattle.std.proofs.Common.{ap, arith, not, sym}
use Rattle.lt_node.proofs.CountLemmas.{found_before}
use Rattle.lt_node.proofs.counts.is_first.Goals as goal

pub returns-then-asks-j : goal.returns-then-asks-j
returns-then-asks-j c =
    sym (ap not (found_before c.args.asks.now c.loop-j.j c.args.k (omega (arith, c.loop-j-test.true)) c.requires c.if-asks-j.true))
