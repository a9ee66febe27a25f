use Rattle.std.proofs.Common.{take}
use Rattle.lt_node.specs.Sets.{WaitMore}
use Rattle.lt_node.proofs.counts.wait_more.Given as goal

abbrev pub invariant-loop-k : goal.invariant-loop-k
invariant-loop-k l = WaitMore (take l.k l.asks) l.gone l.initial.counts.items l.counts.items
