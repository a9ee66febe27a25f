use Rattle.std.proofs.Common.{take}
use Rattle.lt_node.specs.Sets.{WaitLess}
use Rattle.lt_node.proofs.counts.wait_less.Given as goal

abbrev pub invariant-loop-k : goal.invariant-loop-k
invariant-loop-k l = WaitLess (take l.k l.asks) l.gone l.initial.counts.items l.counts.items
